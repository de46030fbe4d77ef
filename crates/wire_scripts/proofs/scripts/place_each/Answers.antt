use Rattle.std.proofs.Common.{◌∙◌, ap, ◌<◌, false, if◌then◌else◌, length, slice_index_or, arith}
use Rattle.std.proofs.Math.ListN.{set}
use Rattle.wire_scripts.proofs.Moved.{on_node, moved_step}
use Rattle.wire_scripts.proofs.scripts.place_each.Goals as goal

pub loop-number-preserved : goal.loop-number-preserved
loop-number-preserved c =
    let named = c.args.named.now in
    let low : c.loop-number.number < length c.args.processes.now.items = omega (arith, c.loop-number-test.true, c.len-number-end.ensures) in
    ap (set c.loop-number.processes.items c.loop-number.number) (c.move_to.ensures ∙ ap (on_node c.node_for.result) c.index_mut.ensures.value)
    ∙ moved_step (λ p. if slice_index_or named p false then 1 else 0) c.args.processes.now.items c.loop-number.processes.items c.loop-number.number
    c.node_for.result c.index_mut.result.now low c.node_for.ensures c.loop-number.invariant
