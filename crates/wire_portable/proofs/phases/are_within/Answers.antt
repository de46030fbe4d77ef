use Rattle.std.proofs.Common.{◌≡◌, ◌∙◌, Some, inl, inr, subst, sym, arith}
use Rattle.std.proofs.lemmas.Bool.{cases_eq}
use Rattle.wire_runs.specs.Plan.{Get, kind_at}
use Rattle.wire_runs.proofs.Basics.{process_within}
use Rattle.wire_scripts.specs.Planned.{plan_of}
use Rattle.wire_portable.specs.Phases.{main_of}
use Rattle.wire_portable.proofs.Owners.{get_owner}
use Rattle.wire_portable.proofs.phases.are_within.Goals as goal

pub returns-then-are_same : goal.returns-then-are_same
returns-then-are_same c = λ t h p key is.
    let same = c.are_same.ensures c.if-are_same.true in
    same h.proc (process_within (plan_of c.args.plan.now) h.proc h.at _ is) ∙ sym (same p (get_owner c.args.plan.now c.scripts.ensures.sound h p key is))

pub loop-number-init : goal.loop-number-init
loop-number-init c = λ q at p key lt is. absurd (omega (arith, lt))

pub loop-number-preserved : goal.loop-number-preserved
loop-number-preserved c = λ q at p key lt is. elim (cases_eq q c.loop-number.number) [
  | inl e ↦ subst (λ r. main_of c.args.sets.now r ≡ main_of c.args.sets.now p) (sym e)
      (c.all_within.ensures c.if-not-all_within.false at p key (subst (λ r. kind_at (plan_of c.args.plan.now) r at ≡ Some (Get p key)) e is))
  | inr ne ↦ c.loop-number.invariant q at p key (omega (arith, lt, ne)) is
]

pub returns : goal.returns
returns c = λ t h p key is.
    let over = c.loop-number-test.false in
    let count = c.process_count-number-end.ensures in
    let within = process_within (plan_of c.args.plan.now) h.proc h.at _ is in
    c.loop-number.invariant h.proc h.at p key (omega (arith, over, count, within)) is
