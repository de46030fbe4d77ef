use Rattle.wire_witness.proofs.pair.search_race.Goals as goal

pub returns-in-Some-clause-ok : goal.returns-in-Some-clause-ok
returns-in-Some-clause-ok c = (c.requires.race, rw c.in-Some.is at c.in_ok-witness.ensures.shown)

pub returns-in-None-clause-ok : goal.returns-in-None-clause-ok
returns-in-None-clause-ok c = (c.requires.race, rw c.in-None.is at c.in_ok-witness.ensures.not_shown)
