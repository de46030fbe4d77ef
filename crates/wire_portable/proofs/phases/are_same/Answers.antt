use Rattle.std.proofs.Common.{◌≡◌, inl, inr, subst, sym, arith}
use Rattle.std.proofs.lemmas.Bool.{cases_eq}
use Rattle.wire_portable.specs.Phases.{main_of}
use Rattle.wire_portable.proofs.phases.are_same.Goals as goal

pub loop-number-init : goal.loop-number-init
loop-number-init c = λ p lt. absurd (omega (arith, lt))

pub loop-number-preserved : goal.loop-number-preserved
loop-number-preserved c = λ p lt. elim (cases_eq p c.loop-number.number) [
  | inl e ↦ subst (λ q. main_of c.args.sets.now q ≡ main_of c.args.sets.now 0) (sym e) (c.are_together.ensures c.if-not-are_together.false)
  | inr ne ↦ c.loop-number.invariant p (omega (arith, lt, ne))
]

pub returns : goal.returns
returns c = λ t p lt.
    let over = c.loop-number-test.false in
    let count = c.process_count-number-end.ensures in
    c.loop-number.invariant p (omega (arith, over, count, lt))
