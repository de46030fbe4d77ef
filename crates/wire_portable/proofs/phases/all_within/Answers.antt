use Rattle.std.proofs.Common.{◌≡◌, Some, inl, inr, subst, arith}
use Rattle.std.proofs.lemmas.Bool.{cases_eq}
use Rattle.wire_runs.specs.Plan.{Get, kind_at}
use Rattle.wire_runs.proofs.Basics.{event_within}
use Rattle.wire_scripts.specs.Planned.{plan_of}
use Rattle.wire_portable.proofs.phases.all_within.Goals as goal

pub loop-at-init : goal.loop-at-init
loop-at-init c = λ at p key lt is. absurd (omega (arith, lt))

pub loop-at-preserved : goal.loop-at-preserved
loop-at-preserved c = λ at p key lt is. elim (cases_eq at c.loop-at.at) [
  | inl e ↦ c.is_within.ensures c.if-not-is_within.false p key (subst (λ i. kind_at (plan_of c.args.plan.now) c.args.proc.number i ≡ Some (Get p key)) e is)
  | inr ne ↦ c.loop-at.invariant at p key (omega (arith, lt, ne)) is
]

pub returns : goal.returns
returns c = λ t at p key is.
    let over = c.loop-at-test.false in
    let count = c.event_count-at-end.ensures in
    let within = event_within (plan_of c.args.plan.now) c.args.proc.number at _ is in
    c.loop-at.invariant at p key (omega (arith, over, count, within)) is
