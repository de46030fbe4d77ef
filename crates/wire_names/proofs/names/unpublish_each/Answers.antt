use Rattle.std.proofs.Common.{◌∙◌, ◌<◌, ap, length, arith}
use Rattle.std.proofs.Math.ListN.{set}
use Rattle.wire_runs.proofs.Lists.{map_step}
use Rattle.wire_names.specs.Names.{after_unpublish}
use Rattle.wire_names.proofs.names.unpublish_each.Goals as goal

pub loop-standing-preserved : goal.loop-standing-preserved
loop-standing-preserved c =
    let low : c.loop-standing.standing-index < length c.args.table.now = omega arith in
    ap (set c.loop-standing.table c.loop-standing.standing-index) c.after_unpublish.ensures
    ∙ map_step (after_unpublish c.args.proc.number) c.args.table.now c.loop-standing.table c.loop-standing.standing-index _ low c.loop-standing.invariant
