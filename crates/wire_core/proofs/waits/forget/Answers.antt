use Rattle.std.proofs.Common.{◌∙◌, ◌<◌, ap, length, arith}
use Rattle.std.proofs.Math.ListN.{set}
use Rattle.wire_runs.proofs.Lists.{map_step}
use Rattle.wire_core.specs.Waiting.{after}
use Rattle.wire_core.proofs.waits.forget.Goals as goal

pub loop-awaited-preserved : goal.loop-awaited-preserved
loop-awaited-preserved c =
    let now = ap length c.deref_mut-awaited-items.ensures.value in
    let test = c.loop-awaited-test.true in
    let low : c.loop-awaited.awaited-index < length c.args.awaited.now.items = omega (arith, test, now) in
    ap (set c.loop-awaited.awaited-items c.loop-awaited.awaited-index) c.known_after.ensures
    ∙ map_step (after c.args.comes) c.args.awaited.now.items c.loop-awaited.awaited-items c.loop-awaited.awaited-index _ low c.loop-awaited.invariant
