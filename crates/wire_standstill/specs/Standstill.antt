-- Which ranks wait in a circle where a run stands, and which wait for no rank.
use Rattle.std.specs.Prelude.{◌≡◌, ◌↔◌, ◌⊎◌, ◌<◌, ℕ, zero, suc, Bool, true, ◌&&◌, ◌==◌, nat_lt, List, [], ◌∷◌, ◌++◌, length}
use Rattle.std.specs.Prelude.{Option, Some, None, Vec, if◌then◌else◌}
use Rattle.std.specs.List.{Contains}
use Rattle.std.specs.declared.alloc.Global.{Global}
use Rattle.wire_runs.specs.Plan.{Plan, Event, Kind, LookupWait, Publish, kind, event_count, process_count}
use Rattle.wire_runs.specs.State.{State}
use Rattle.wire_circles.specs.Circles.{waited_by}
use Rattle.wire_circles.specs.Deadlocks.{RankWaits, IsDeadlock}

-- a deadlock; or no rank, where there is none
abbrev pub IsDeadlockOrNone : Plan → State → List ℕ → Type 0
IsDeadlockOrNone plan s circle = IsDeadlock plan s circle ⊎ ((circle ≡ []) × ((other : List ℕ) → IsDeadlock plan s other → ⊥))

-- p has a call left, and waits for no rank
pub record WaitsForNoRank (plan : Plan) (s : State) (p : ℕ) : Type 0 where
  pub left : s.done p < event_count plan p
  pub nobody : (q : ℕ) → RankWaits plan s p q → ⊥

-- the ranks below n of which this is so, in their order
abbrev pub ranks_below : (ℕ → Bool) → ℕ → List ℕ
ranks_below is_so zero = []
ranks_below is_so (suc n) = ranks_below is_so n ++ (if is_so n then n ∷ [] else [])

-- of all ranks exactly those that have a call left and wait for no rank, in their order
pub record WaitForNoRank (plan : Plan) (s : State) (never : List ℕ) : Type 0 where
  pub is_so : ℕ → Bool
  pub tells : (p : ℕ) → (is_so p ≡ true) ↔ WaitsForNoRank plan s p
  pub are : never ≡ ranks_below is_so (process_count plan)

-- a deadlock, where there is one, and the ranks that have a call left and wait for no rank
pub record IsStandstill (plan : Plan) (s : State) (circle never : List ℕ) : Type 0 where
  pub deadlock : IsDeadlockOrNone plan s circle
  pub no_rank : WaitForNoRank plan s never

-- the rest is for private contracts alone

-- the rank of an event that hasn't happened, and those of these events
abbrev pub undone_rank : State → Event → List ℕ
undone_rank s x = if nat_lt x.at (s.done x.proc) then [] else x.proc ∷ []

abbrev pub undone_ranks : State → List Event → List ℕ
undone_ranks s [] = []
undone_ranks s (x ∷ xs) = undone_rank s x ++ undone_ranks s xs

-- these are the publishes of the name for which an event of this kind waits
pub record ArePublishesFor (plan : Plan) (next : Kind) (publishes : List Event) : Type 0 where
  pub only : (x : Event) → Contains publishes x → (name : ℕ) × (next ≡ LookupWait name) × (kind plan x ≡ Some (Publish name))
  pub all : (x : Event) (name : ℕ) → next ≡ LookupWait name → kind plan x ≡ Some (Publish name) → Contains publishes x

-- these are the ranks for which p waits
abbrev pub AreWaitedBy : Plan → State → ℕ → List ℕ → Type 0
AreWaitedBy plan s p ranks = (q : ℕ) → Contains ranks q ↔ RankWaits plan s p q

-- the table says for each rank for whom it waits
abbrev pub AreWaits : Plan → State → List (Vec ℕ Global) → Type 0
AreWaits plan s waits = (p : ℕ) → AreWaitedBy plan s p (waited_by waits p)

-- whether p has a call left and waits for no rank, by the table
abbrev pub is_root : Plan → State → List (Vec ℕ Global) → ℕ → Bool
is_root plan s waits p = nat_lt (s.done p) (event_count plan p) && (length (waited_by waits p) == 0)

abbrev pub roots : Plan → State → List (Vec ℕ Global) → List ℕ
roots plan s waits = ranks_below (is_root plan s waits) (process_count plan)

abbrev pub circle_in : Option (Vec ℕ Global) → List ℕ
circle_in None = []
circle_in (Some circle) = circle.items
