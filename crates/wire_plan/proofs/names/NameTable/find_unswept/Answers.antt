use Rattle.std.proofs.Common.{◌∙◌, sym, refl, eqb-true, eq-eqb}
use Rattle.std.proofs.lemmas.Bool.{true≢false}
use Rattle.wire_plan.proofs.Tables.{none_swept, one_swept}
use Rattle.wire_plan.proofs.names.NameTable.find_unswept.Goals as goal

pub returns-then-is_empty : goal.returns-then-is_empty
returns-then-is_empty c = λ plan are. (
  refl,
  (λ z same all.
      let w = (c.sweeps.ensures plan are).all z (same, all) in
      none_swept c.sweeps.result.now (eqb-true _ _ (sym c.is_empty.ensures ∙ c.if-is_empty.true)) w.0 z w.1),
)

pub returns-else-is_empty : goal.returns-else-is_empty
returns-else-is_empty c = λ plan are.
    one_swept plan c.args.publish.proc.number c.sweeps.result.now (c.sweeps.ensures plan are) (λ none. true≢false (sym (c.is_empty.ensures ∙ eq-eqb _ _ none) ∙ c.if-is_empty.false))
