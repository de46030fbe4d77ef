use Rattle.std.proofs.Common.{◌∙◌, sym}
use Rattle.std.proofs.lemmas.Bool.{eqb-true, eq-eqb}
use Rattle.std.proofs.Math.Nat.{div-eq_of_lt}
use Rattle.wire_clocks.proofs.Staying.{below_width}
use Rattle.wire_clocks.proofs.trees.is_within.Goals as goal

pub returns-else-levels-eq8 : goal.returns-else-levels-eq8
returns-else-levels-eq8 c = (
  (λ t. below_width c.args.process c.args.levels (sym c.place.ensures ∙ eqb-true c.place.result 0 t)),
  (λ low. eq-eqb c.place.result 0 (c.place.ensures ∙ div-eq_of_lt low)),
)
