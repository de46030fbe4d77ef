-- Which events depend on which: edges, live events, and chains of edges.
use Rattle.std.specs.Prelude.{◌≡◌, ◌≢◌, ℕ, suc, List, Bool, true, false, ◌||◌, Option, Some, None, is_some, ◌==◌}
use Rattle.std.specs.Prelude.{nat_le, if◌then◌else◌}
use Rattle.wire_runs.specs.Plan.{Plan, Kind, Arrive, Leave, Get, Publish, LookupWait, kind, event_count, Event}
use Rattle.wire_runs.specs.Names.{takes_name}
use Rattle.wire_runs.specs.Puts.{own, stored, put_count}
use Rattle.wire_runs.specs.Fences.{arrivals, is_member, is_full}

-- the event at x is the first commit after the first put of the key
pub record Stores (plan : Plan) (x : Event) (key : ℕ) : Type 0 where
  pub nothing_before : stored plan x.proc key x.at ≡ None
  pub something_after : is_some (stored plan x.proc key (suc x.at)) ≡ true

-- z is a member's arrival at the j-th fence over these members
pub record IsArrival (plan : Plan) (members : List ℕ) (j : ℕ) (z : Event) : Type 0 where
  pub collect : Bool
  pub is : kind plan z ≡ Some (Arrive members collect)
  pub member : is_member members z.proc ≡ true
  pub nth : arrivals plan z.proc members (suc z.at) ≡ j

-- x is the one publish of a name that nobody unpublishes
pub record PublishesOnce (plan : Plan) (x : Event) (name : ℕ) : Type 0 where
  pub is : kind plan x ≡ Some (Publish name)
  pub only : (y : Event) → kind plan y ≡ Some (Publish name) → y ≡ x
  pub stays : (y : Event) → takes_name plan name y (kind plan y) ≡ false

-- x is a source of y: in every run y waits for x
pub data Edge (plan : Plan) (x y : Event) : Type 0 where
  Follows : x.proc ≡ y.proc → suc x.at ≡ y.at → Edge plan x y
  Meets : (members : List ℕ) → kind plan y ≡ Some (Leave members) → IsArrival plan members (arrivals plan y.proc members y.at) x → Edge plan x y
  Feeds : (key : ℕ) → kind plan y ≡ Some (Get x.proc key) → x.proc ≢ y.proc → put_count plan x.proc key (event_count plan x.proc) ≡ 1 → Stores plan x key →
      Edge plan x y
  Announces : (name : ℕ) → kind plan y ≡ Some (LookupWait name) → PublishesOnce plan x name → Edge plan x y

-- whether there is such an event and the scripts don't rule it out, its sources aside. They rule out a get of another
-- process's key that is never put, or put once and never committed after that; a get of one's own key before any put of
-- it; and the end of a fence that a member doesn't call
abbrev pub may_come : Plan → Event → Option Kind → Bool
may_come plan y None = false
may_come plan y (Some (Get owner key)) =
    if y.proc == owner then is_some (own plan owner key y.at)
    else (is_some (stored plan owner key (event_count plan owner)) || nat_le 2 (put_count plan owner key (event_count plan owner)))
may_come plan y (Some (Leave members)) = is_full plan members (arrivals plan y.proc members y.at)
may_come plan y (Some _) = true

-- live events: the least set that has each event which the scripts don't rule out and whose sources are all in it
pub data Live (plan : Plan) : Event → Type 0 where
  live : {y : Event} → may_come plan y (kind plan y) ≡ true → ((x : Event) → Edge plan x y → Live plan x) → Live plan y

-- x is before y: there is a chain, a path of one edge or more through live events, from x to y
pub data Before (plan : Plan) : Event → Event → Type 0 where
  edge : {x y : Event} → Live plan x → Edge plan x y → Live plan y → Before plan x y
  further : {x y z : Event} → Before plan x y → Edge plan y z → Live plan z → Before plan x z
