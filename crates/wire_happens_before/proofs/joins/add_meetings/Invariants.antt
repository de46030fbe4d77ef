use Rattle.std.proofs.Common.{◌-◌, suc, length}
use Rattle.wire_happens_before.specs.Meeting.{AreAdded}
use Rattle.wire_happens_before.proofs.joins.add_meetings.Given as goal

abbrev pub invariant-adding : goal.invariant-adding
invariant-adding l = AreAdded l.initial.meetings.items l.meetings.items

abbrev pub decreases-adding : goal.decreases-adding
decreases-adding l = suc l.fence.number - length l.meetings.items
