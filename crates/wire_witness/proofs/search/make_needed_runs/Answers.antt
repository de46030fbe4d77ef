use Rattle.wire_witness.proofs.search.make_needed_runs.Goals as goal

pub returns-in-Ok-clause-made : goal.returns-in-Ok-clause-made
returns-in-Ok-clause-made c = record { first = c.in_ok-first.ensures.made; second = c.in-Ok.ensures.made }
