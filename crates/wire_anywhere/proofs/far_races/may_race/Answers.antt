use Rattle.std.proofs.Common.{◌∙◌, sym}
use Rattle.std.proofs.lemmas.Bool.{true≢false, false_from_ne_true, not_from_true, not_from_false}
use Rattle.wire_anywhere.proofs.far_races.may_race.Goals as goal

pub returns-then-live : goal.returns-then-live
returns-then-live c = (
  (λ t. (c.live.ensures.0 c.if-live.true, λ b. true≢false (sym t ∙ not_from_true c.before-then-live.result (c.before-then-live.ensures.1 b)))),
  λ may. not_from_false c.before-then-live.result (false_from_ne_true c.before-then-live.result (λ t. may.1 (c.before-then-live.ensures.0 t))),
)
