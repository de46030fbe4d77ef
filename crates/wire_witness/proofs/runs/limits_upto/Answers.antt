use Rattle.std.proofs.Common.{ap, subst, length, arith}
use Rattle.wire_types.specs.declared.Proc.{Proc}
use Rattle.wire_runs.specs.Plan.{event_of, process_count}
use Rattle.wire_scripts.specs.Planned.{plan_of}
use Rattle.wire_happens_before.specs.Clocks.{IsClockOf}
use Rattle.wire_witness.proofs.Made.{counted_more, one_limit_more, live_or_not}
use Rattle.wire_witness.proofs.runs.limits_upto.Goals as goal

pub loop-number-init : goal.loop-number-init
loop-number-init c = record { count = ap length c.in_ok-limits.ensures.items; each = λ p lt. absurd (omega (arith, lt)) }

pub loop-number-preserved : goal.loop-number-preserved
loop-number-preserved c = record {
  count = counted_more c.loop-number.limits.items _ c.loop-number.number _ c.loop-number.invariant.count c.in_ok-push.ensures.items;
  each = one_limit_more (IsClockOf (plan_of c.args.marked.now) (event_of c.args.event)) c.loop-number.limits.items _ c.loop-number.number _
      c.loop-number.invariant.count c.in_ok-push.ensures.items
      (subst (λ p. IsClockOf (plan_of c.args.marked.now) (event_of c.args.event) p c.clock.result) (ap (λ (p : Proc). p.number) c.new.ensures) (c.clock.ensures (plan_of c.args.marked.now) c.marks-marks.ensures)) c.loop-number.invariant.each;
}

pub returns : goal.returns
returns c = record {
  live_or_not = live_or_not (plan_of c.args.marked.now) c.marks-marks.result.now (event_of c.args.event) c.marks-marks.ensures;
  clocks = λ p lt.
      let same = ap (λ s. process_count (plan_of s)) c.plan.ensures in
      c.loop-number.invariant.each p (omega (arith, lt, same, c.loop-number-test.false, c.process_count-count.ensures));
}
