use Rattle.std.proofs.Common.{◌∙◌, true≢false, refl, sym, subst, arith}
use Rattle.wire_types.specs.declared.place.Proc.{Proc}
use Rattle.wire_runs.specs.Plan.{LookupWait, event_count}
use Rattle.wire_runs.proofs.Basics.{event_within, process_within}
use Rattle.wire_scripts.specs.Planned.{plan_of}
use Rattle.wire_pattern_stages.specs.Lookups.{AreForOne}
use Rattle.wire_pattern_stages.proofs.Lists.{one_number}
use Rattle.wire_pattern_stages.proofs.lookups.is_plan_for_one.Goals as goal

pub loop-number-preserved : goal.loop-number-preserved
loop-number-preserved c =
    let plan = plan_of c.args.plan.now in
    one_number (λ p. AreForOne plan p (event_count plan p)) c.loop-number.number c.loop-number.invariant
    (subst (λ (v : Proc). AreForOne plan v.number (event_count plan v.number)) c.new.ensures (c.is_process_for_one.ensures.0 c.if-not-is_process_for_one.false))

pub returns : goal.returns
returns c = (
  (λ t y name is.
      let plan = plan_of c.args.plan.now in
      let there = process_within plan y.proc y.at (LookupWait name) is in
      let count = c.process_count-number-end.ensures in
      let end = c.loop-number-test.false in
      c.loop-number.invariant y.proc (omega (arith, there, count, end)) y.at (event_within plan y.proc y.at (LookupWait name) is) name is),
  (λ all. refl),
)

pub returns-then-not-is_process_for_one : goal.returns-then-not-is_process_for_one
returns-then-not-is_process_for_one c = (
  (λ e. absurd (true≢false (sym e))),
  (λ all. sym c.if-not-is_process_for_one.true ∙ c.is_process_for_one.ensures.1 (λ i lt name is. all (record { proc = c.new.result.number; at = i }) name is)),
)
