use Rattle.std.proofs.Common.{◌+◌, arith}
use Rattle.wire_scripts.specs.Planned.{plan_of}
use Rattle.wire_races.specs.Rewriting.{IsRewriteBy}
use Rattle.wire_races.proofs.Growing.{one_event}
use Rattle.wire_races.proofs.rewrites.add_process.Goals as goal

pub loop-at-preserved : goal.loop-at-preserved
loop-at-preserved c =
    let plan = plan_of c.args.plan.now in
    one_event plan (IsRewriteBy plan) c.args.found.now c.loop-at.found c.add_rewrite.new.found c.args.proc.number c.loop-at.at (c.loop-at.at + 1) (omega arith) c.loop-at.invariant
    c.in_ok-add_rewrite.ensures
