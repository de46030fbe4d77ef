use Rattle.wire_portable.proofs.search.phases_of.Goals as goal

pub returns-then-ask_for_phases : goal.returns-then-ask_for_phases
returns-then-ask_for_phases c = rw c.plan.ensures at c.of.ensures
