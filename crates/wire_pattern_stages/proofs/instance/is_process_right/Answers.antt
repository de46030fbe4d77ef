use Rattle.wire_scripts.specs.Planned.{plan_of}
use Rattle.wire_pattern_stages.specs.Rising.{IsRight}
use Rattle.wire_pattern_stages.specs.Tables.{view_key}
use Rattle.wire_pattern_stages.proofs.Lists.{one_number}
use Rattle.wire_pattern_stages.proofs.instance.is_process_right.Goals as goal

pub loop-at-preserved : goal.loop-at-preserved
loop-at-preserved c =
    one_number (λ i. IsRight (view_key c.args.view.now) (plan_of c.args.view.now.plan.now) (record { proc = c.args.proc.number; at = i })) c.loop-at.at c.loop-at.invariant
    (c.is_right.ensures c.if-not-is_right.false)
