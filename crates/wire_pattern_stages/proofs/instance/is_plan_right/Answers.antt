use Rattle.std.proofs.Common.{subst, arith}
use Rattle.wire_types.specs.declared.place.Proc.{Proc}
use Rattle.wire_runs.specs.Plan.{event_count}
use Rattle.wire_scripts.specs.Planned.{plan_of}
use Rattle.wire_pattern_stages.specs.Rising.{AreRight}
use Rattle.wire_pattern_stages.specs.Tables.{view_key}
use Rattle.wire_pattern_stages.proofs.Lists.{one_number}
use Rattle.wire_pattern_stages.proofs.instance.is_plan_right.Goals as goal

pub loop-number-preserved : goal.loop-number-preserved
loop-number-preserved c =
    one_number (λ p. AreRight (view_key c.args.view.now) (plan_of c.args.view.now.plan.now) p (event_count (plan_of c.args.view.now.plan.now) p)) c.loop-number.number c.loop-number.invariant
    (subst (λ (v : Proc). AreRight (view_key c.args.view.now) (plan_of c.args.view.now.plan.now) v.number (event_count (plan_of c.args.view.now.plan.now) v.number)) c.new.ensures
    (c.is_process_right.ensures c.if-not-is_process_right.false))

pub returns : goal.returns
returns c = λ t p lt.
    let count = c.process_count-number-end.ensures in
    let end = c.loop-number-test.false in
    c.loop-number.invariant p (omega (arith, lt, count, end))
