use Rattle.std.proofs.Common.{◌∙◌, sym}
use Rattle.std.proofs.lemmas.Bool.{true≢false}
use Rattle.wire_witness.proofs.pair.search_calls.Goals as goal

pub search_race-requires : goal.search_race-requires
search_race-requires c = record { race = c.in_ok-racing.ensures.0 c.if-not-racing.false }

pub returns-then-not-racing-clause-ok : goal.returns-then-not-racing-clause-ok
returns-then-not-racing-clause-ok c = λ race. true≢false (sym (c.in_ok-racing.ensures.1 race) ∙ c.if-not-racing.true)
