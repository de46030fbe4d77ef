use Rattle.std.proofs.Common.{◌≡◌, ◌==◌, ap, length, arith}
use Rattle.std.specs.Prelude.{if◌then◌else◌}
use Rattle.wire_runs.specs.Plan.{event_count}
use Rattle.wire_scripts.specs.Planned.{plan_of}
use Rattle.wire_witness.proofs.Made.{counted_more, one_limit_more}
use Rattle.wire_witness.proofs.runs.limits_before.Goals as goal

pub loop-number-init : goal.loop-number-init
loop-number-init c = record { count = ap length c.in_ok-limits.ensures.items; each = λ p lt. absurd (omega (arith, lt)) }

pub loop-number-preserved : goal.loop-number-preserved
loop-number-preserved c = record {
  count = counted_more c.loop-number.limits.items _ c.loop-number.number _ c.loop-number.invariant.count c.in_ok-push.ensures.items;
  each = one_limit_more (λ p n. n ≡ (if p == c.args.held.proc.number then c.args.held.at else event_count (plan_of c.args.plan.now) p)) c.loop-number.limits.items _ c.loop-number.number _
      c.loop-number.invariant.count c.in_ok-push.ensures.items c.limit_before.ensures c.loop-number.invariant.each;
}

pub returns : goal.returns
returns c = λ p lt. c.loop-number.invariant.each p (omega (arith, lt, c.loop-number-test.false, c.process_count-number-end.ensures))
