use Rattle.wire_scripts.specs.Planned.{plan_of}
use Rattle.wire_pattern_stages.specs.Lookups.{IsForOne}
use Rattle.wire_pattern_stages.proofs.Lists.{one_number}
use Rattle.wire_pattern_stages.proofs.lookups.is_process_for_one.Goals as goal

pub loop-at-preserved : goal.loop-at-preserved
loop-at-preserved c =
    one_number (λ i. IsForOne (plan_of c.args.plan.now) (record { proc = c.args.proc.number; at = i })) c.loop-at.at c.loop-at.invariant
    (c.is_for_one.ensures.0 c.if-not-is_for_one.false)
