use Rattle.std.proofs.Common.{◌∙◌, sym, eqb-true}
use Rattle.std.proofs.lemmas.Bool.{not-false}
use Rattle.wire_plan.proofs.Tables.{none_swept}
use Rattle.wire_races.proofs.sweep_races.is_new.Goals as goal

pub returns-then-is_empty : goal.returns-then-is_empty
returns-then-is_empty c = λ f z same all.
    let w = c.sweeps.ensures.all z (same, all) in
    absurd (none_swept c.sweeps.result.now (eqb-true _ _ (sym c.is_empty.ensures ∙ c.if-is_empty.true)) w.0 z w.1)

pub returns : goal.returns
returns c = λ f z same all. c.is_last.ensures (not-false c.is_last.result f)
