use Rattle.std.proofs.Common.{◌≡◌, ◌∙◌, inl, inr, ap, sym, subst, arith}
use Rattle.std.proofs.lemmas.Bool.{cases_eq, true≢false, OnTrue_at, OnTrue_from, OnFalse_at, OnFalse_from}
use Rattle.wire_runs.specs.Plan.{process_count}
use Rattle.wire_scripts.specs.Planned.{plan_of}
use Rattle.wire_happens_before.specs.Meeting.{IsStuckIn}
use Rattle.wire_happens_before.proofs.Growing.{stuck_same}
use Rattle.wire_happens_before.proofs.grow.mark_once.Goals as goal
use Rattle.wire_happens_before.proofs.grow.mark_once.Goals.{then-branch, else-branch}

pub loop-number-preserved : goal.loop-number-preserved
loop-number-preserved c = record {
  growing = c.in_ok-mark_run.ensures.growing;
  plan = c.mark_run.ensures.plan ∙ c.loop-number.invariant.plan;
  not_more = let a = c.in_ok-mark_run.ensures.not_more in let b = c.loop-number.invariant.not_more in omega (arith, a, b);
  falls = elim c.if-branch.branch [
    | then-branch w ↦ λ t. (let a = OnTrue_at w.if-branch.true c.in_ok-mark_run.ensures.falls in let b = c.loop-number.invariant.not_more in omega (arith, a, b))
    | else-branch w ↦ λ t. (let a = c.in_ok-mark_run.ensures.not_more in let b = c.loop-number.invariant.falls (sym w.moved-is ∙ t) in omega (arith, a, b))
  ];
  stuck = elim c.if-branch.branch [
    | then-branch w ↦ λ none. absurd (true≢false (sym w.moved-is ∙ none))
    | else-branch w ↦ λ none p lt. elim (cases_eq p c.loop-number.number) [
      | inl e ↦ let here : c.new.result.number ≡ c.loop-number.number = ap (λ v. v.number) c.new.ensures in
          subst (λ q. IsStuckIn c.mark_run.new.growth q) (sym (e ∙ sym here)) c.in_ok-mark_run.ensures.stuck
      | inr ne ↦ stuck_same c.loop-number.growth.plan.now c.mark_run.new.growth.plan.now c.loop-number.growth.clocks c.mark_run.new.growth.clocks p c.mark_run.ensures.plan
          (OnFalse_at w.if-branch.false c.in_ok-mark_run.ensures.same)
          (c.loop-number.invariant.stuck (sym w.moved-is ∙ none) p (omega (arith, lt, ne)))
    ]
  ];
}

pub returns-clause-stuck : goal.returns-clause-stuck
returns-clause-stuck c = OnFalse_from c.loop-number.moved _ (λ none p lt.
    let same = ap (λ s. process_count (plan_of s)) c.loop-number.invariant.plan in
    let count = c.process_count-number-end.ensures in
    let over = c.loop-number-test.false in
    c.loop-number.invariant.stuck none p (omega (arith, lt, same, count, over)))

pub returns-clause-falls : goal.returns-clause-falls
returns-clause-falls c = OnTrue_from c.loop-number.moved _ c.loop-number.invariant.falls
