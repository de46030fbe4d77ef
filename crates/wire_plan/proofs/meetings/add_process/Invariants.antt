use Rattle.std.proofs.Common.{map}
use Rattle.wire_plan.specs.Meetings.{AreArrivalListsTo}
use Rattle.wire_plan.proofs.meetings.add_process.Given as goal

abbrev pub invariant-loop-at : goal.invariant-loop-at
invariant-loop-at l = AreArrivalListsTo l.events l.fences l.proc.number 0 (map (λ v. v.items) l.initial.lists.items) →
    AreArrivalListsTo l.events l.fences l.proc.number l.at (map (λ v. v.items) l.lists.items)
