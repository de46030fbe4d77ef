use Rattle.std.proofs.Common.{◌≡◌, ◌∙◌, [], sym, refl, length, ap, arith, eqb-true, eq-eqb}
use Rattle.std.proofs.lemmas.Bool.{true≢false}
use Rattle.std.proofs.lemmas.List.{nil_from_length}
use Rattle.wire_findings.proofs.OneList.{none_told}
use Rattle.wire_fates.proofs.settled.Settled.try_new.Goals as goal

pub invariant_of-result : goal.invariant_of-result
invariant_of-result c =
    let none = eqb-true _ _ (sym c.is_empty.ensures ∙ c.if-not-is_empty.false) in
    let ok = c.args.findings.ok.0 in
    let empty : c.args.findings.items ≡ [] = nil_from_length c.args.findings.items (omega (arith, none, ok)) in
    ((none_told c.args.plan c.args.findings.items c.requires.findings).0 empty, c.requires.marks)

pub returns-then-not-is_empty-clause-settled : goal.returns-then-not-is_empty-clause-settled
returns-then-not-is_empty-clause-settled c = (
  (λ t. absurd (true≢false (sym t))),
  (λ s.
      let empty = ap length ((none_told c.args.plan c.args.findings.items c.requires.findings).1 s) in
      let ok = c.args.findings.ok.0 in
      let none = eq-eqb _ _ (omega (arith, empty, ok)) in
      absurd (true≢false (sym (c.is_empty.ensures ∙ none) ∙ c.if-not-is_empty.true))),
)

pub returns-clause-settled : goal.returns-clause-settled
returns-clause-settled c = (
  (λ t.
      let none = eqb-true _ _ (sym c.is_empty.ensures ∙ c.if-not-is_empty.false) in
      let ok = c.args.findings.ok.0 in
      let empty : c.args.findings.items ≡ [] = nil_from_length c.args.findings.items (omega (arith, none, ok)) in
      (none_told c.args.plan c.args.findings.items c.requires.findings).0 empty),
  (λ s. refl),
)

pub returns-then-not-is_empty-clause-variant : goal.returns-then-not-is_empty-clause-variant
returns-then-not-is_empty-clause-variant c = (
  (λ t. absurd (true≢false (sym t))),
  (λ e.
      let empty = ap length e in
      let ok = c.args.findings.ok.0 in
      let none = eq-eqb _ _ (omega (arith, empty, ok)) in
      absurd (true≢false (sym (c.is_empty.ensures ∙ none) ∙ c.if-not-is_empty.true))),
)

pub returns-clause-variant : goal.returns-clause-variant
returns-clause-variant c = (
  (λ t.
      let none = eqb-true _ _ (sym c.is_empty.ensures ∙ c.if-not-is_empty.false) in
      let ok = c.args.findings.ok.0 in
      nil_from_length c.args.findings.items (omega (arith, none, ok))),
  (λ e. refl),
)
