use Rattle.wire_commands.proofs.replay.find_races.Goals as goal

pub returns-clause-findings : goal.returns-clause-findings
returns-clause-findings g c = rw c.with.ensures at c.in_ok-found.ensures.ok
