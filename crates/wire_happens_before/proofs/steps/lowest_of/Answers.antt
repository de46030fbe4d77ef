use Rattle.wire_happens_before.proofs.steps.lowest_of.Goals as goal

pub returns-in-Some : goal.returns-in-Some
returns-in-Some c plan places m h = rw c.in-Some.is (c.lowest_with.ensures plan places m h)
