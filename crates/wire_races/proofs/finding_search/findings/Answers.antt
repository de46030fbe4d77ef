use Rattle.wire_races.proofs.finding_search.findings.Goals as goal

pub returns-clause-ok : goal.returns-clause-ok
returns-clause-ok g c = rw c.with-marked.ensures at c.in_ok-found.ensures
