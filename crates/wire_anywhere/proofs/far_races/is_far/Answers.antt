use Rattle.std.proofs.Common.{◌∙◌, sym}
use Rattle.std.proofs.lemmas.Bool.{true≢false}
use Rattle.wire_anywhere.proofs.far_races.is_far.Goals as goal

pub returns-then-may_race : goal.returns-then-may_race
returns-then-may_race c = (
  (λ t. (c.may_race.ensures.0 c.if-may_race.true, c.lacks.ensures.0 t)),
  (λ b. c.lacks.ensures.1 b.1),
)

pub returns-else-may_race : goal.returns-else-may_race
returns-else-may_race c = (
  (λ t. absurd (true≢false (sym t ∙ c.if-may_race.false))),
  (λ b. c.may_race.ensures.1 b.0),
)
