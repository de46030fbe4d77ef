-- The arrivals at fences that bring data: for the contracts of private functions.
use Rattle.std.specs.Prelude.{◌≡◌, ◌↔◌, ℕ, ◌<◌, ◌≤◌, List, Bool, true, ◌&&◌, ◌||◌, ◌==◌, nat_lt, Option, Some}
use Rattle.std.specs.Prelude.{MatchOption, map, slice_get}
use Rattle.wire_runs.specs.Plan.{Plan, Event, event_of}
use Rattle.wire_runs.specs.Fences.{has_node}
use Rattle.wire_runs.specs.EventLists.{IsLower, AreAll}
use Rattle.wire_types.specs.declared.Event.{Event as CodeEvent}
use Rattle.wire_plan.specs.Index.{BringsData, IsSent}
use Rattle.wire_plan.specs.declared.bringing.BringingArrivals.{BringingArrivals}

-- x is an arrival at a fence that brings data, with a member on the node
pub record BringsTo (plan : Plan) (node : ℕ) (x : Event) : Type 0 where
  pub brings : BringsData plan x
  pub reaches : has_node plan brings.members node ≡ true

-- the table has the arrivals at fences that bring data
abbrev pub AreBringing : Plan → BringingArrivals → Type 0
AreBringing plan table = AreAll (BringsData plan) (map event_of table.arrivals.items)

-- the same of those that stand before the i-th event of the p-th process
abbrev pub AreBringingTo : Plan → ℕ → ℕ → BringingArrivals → Type 0
AreBringingTo plan p i table = AreAll (λ x. BringsData plan x × IsLower x (record { proc = p; at = i })) (map event_of table.arrivals.items)

-- x is an arrival of p, from its event number `from` on, that brings data to the node
pub record IsBringingFrom (plan : Plan) (p node from : ℕ) (x : Event) : Type 0 where
  pub proc : x.proc ≡ p
  pub from_there : from ≤ x.at
  pub brings : BringsTo plan node x

-- none of them stands in front of this place of a list
abbrev pub NoneInFront : Plan → ℕ → ℕ → ℕ → List Event → ℕ → Type 0
NoneInFront plan p node from xs k = (l : ℕ) (x : Event) → l < k → slice_get xs l ≡ Some x → IsBringingFrom plan p node from x → ⊥

-- what is found, if anything, is the first of them
abbrev pub IsFirstFrom : Plan → ℕ → ℕ → ℕ → Option CodeEvent → Type 0
IsFirstFrom plan p node from found =
    MatchOption found
    ((x : Event) → IsBringingFrom plan p node from x → ⊥)
    (λ e. IsBringingFrom plan p node from (event_of e) × ((x : Event) → IsBringingFrom plan p node from x → e.at ≤ x.at))

-- what p has stored under the key is for processes of other nodes exactly after its event of this number, if ever
abbrev pub IsSentAfter : Plan → ℕ → ℕ → Option ℕ → Type 0
IsSentAfter plan p key commit = MatchOption commit ((at : ℕ) → IsSent plan p key at → ⊥) (λ c. (at : ℕ) → IsSent plan p key at ↔ c < at)

-- the lower first
abbrev pub IsRising : List Event → Type 0
IsRising xs = (k l : ℕ) (y z : Event) → k < l → slice_get xs k ≡ Some y → slice_get xs l ≡ Some z → IsLower y z

-- whether x is lower than y
abbrev pub is_below : Event → Event → Bool
is_below x y = nat_lt x.proc y.proc || ((x.proc == y.proc) && nat_lt x.at y.at)
