use Rattle.std.proofs.Common.{◌≡◌, ◌+◌, ◌-◌, ℕ, map, length}
use Rattle.wire_plan.specs.Meetings.{arrivals_in}
use Rattle.wire_plan.proofs.meetings.make_room.Given as goal

abbrev pub invariant-lists : goal.invariant-lists
invariant-lists l = (n : ℕ) → arrivals_in (map (λ v. v.items) l.lists.items) n ≡ arrivals_in (map (λ v. v.items) l.initial.lists.items) n

abbrev pub decreases-lists : goal.decreases-lists
decreases-lists l = (l.number + 1) - length l.lists.items
