use Rattle.std.proofs.Common.{map}
use Rattle.wire_plan.specs.Meetings.{AreArrivalListsTo}
use Rattle.wire_plan.proofs.meetings.Meetings.of.Given as goal

abbrev pub invariant-loop-number : goal.invariant-loop-number
invariant-loop-number l = AreArrivalListsTo l.events l.fences l.number 0 (map (λ v. v.items) l.arrivals.items)
