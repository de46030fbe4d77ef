-- How the marks grow: for the contracts of private functions.
use Rattle.std.specs.Prelude.{Some, None, Option, ◌≡◌, ◌≢◌, ◌⊎◌, ◌<◌, ◌≤◌, ◌+◌, ◌-◌, ◌^◌, zero, ◌++◌, ◌∷◌, [], ℕ, suc}
use Rattle.std.specs.Prelude.{true, max, length}
use Rattle.wire_runs.specs.Plan.{Plan, Event, kind, event_count, process_count}
use Rattle.wire_runs.specs.Order.{Edge, may_come, Live}
use Rattle.wire_clocks.specs.ClockTrees.{IsRoot, Holds, HasZeros, Keeps}
use Rattle.wire_happens_before.specs.Updates.{updates_at, AreUpdates, IsUpdateNoted}
use Rattle.wire_happens_before.specs.Clocks.{items_at, Clocks, marked_count, root_at, base_at, own_of, clock_of, IsClock}

-- the event may come, and all its sources are marked
pub record IsReady (plan : Plan) (count : ℕ → ℕ) (y : Event) : Type 0 where
  pub comes : may_come plan y (kind plan y) ≡ true
  pub sources : (z : Event) → Edge plan z y → z.at < count z.proc

-- each marked event is live
abbrev pub MarkedAreLive : Plan → (ℕ → ℕ) → Type 0
MarkedAreLive plan count = (y : Event) → y.at < count y.proc → Live plan y

-- no process has a next event that is ready
abbrev pub NoneIsReady : Plan → (ℕ → ℕ) → Type 0
NoneIsReady plan count = (y : Event) → y.at ≡ count y.proc → IsReady plan count y → ⊥

-- the base counts only what the sources of y count, and with y's own process all of that
pub record IsBase (plan : Plan) (clock : Event → ℕ → ℕ) (y : Event) (base : ℕ → ℕ) : Type 0 where
  pub from : (q n : ℕ) → n < base q → (z : Event) × Edge plan z y × (n < clock z q)
  pub covers : (q : ℕ) (z : Event) → Edge plan z y → clock z q ≤ max (base q) (own_of y q)

-- each marked event has the root of a base, the bases have numbers for each process, all numbers fit, and 0 is the root
-- of zeros
pub record AreBased (clocks : Clocks) : Type 0 where
  pub there : (y : Event) (n : ℕ) → root_at clocks y ≡ Some n → IsRoot clocks.trees n
  pub room : (p : ℕ) → p < length clocks.roots.items → Holds clocks.trees p
  pub few : (p : ℕ) → marked_count clocks p < 2 ^ 32
  pub zeros : HasZeros clocks.trees

-- what holds of the clocks while they grow
pub record AreClocks (plan : Plan) (clocks : Clocks) : Type 0 where
  pub processes : length clocks.roots.items ≡ process_count plan
  pub based : AreBased clocks
  pub live : MarkedAreLive plan (marked_count clocks)
  pub closed : (x y : Event) → Edge plan x y → y.at < marked_count clocks y.proc → x.at < marked_count clocks x.proc
  pub updates : (name : ℕ) → AreUpdates plan (λ z. z.at < marked_count clocks z.proc) name (updates_at clocks.updates name)
  pub told : (y : Event) → y.at < marked_count clocks y.proc → IsClock plan y (clock_of clocks y)

-- the process's next event
abbrev pub next_of : Clocks → ℕ → Event
next_of clocks p = record { proc = p; at = marked_count clocks p }

-- the process's next event isn't ready
abbrev pub IsStuckAt : Plan → Clocks → ℕ → Type 0
IsStuckAt plan clocks p = IsReady plan (marked_count clocks) (next_of clocks p) → ⊥

-- the process's next event is ready, and the base of this root is one for it
pub record IsNextBase (plan : Plan) (clocks : Clocks) (p n : ℕ) : Type 0 where
  pub ready : IsReady plan (marked_count clocks) (next_of clocks p)
  pub few : suc (marked_count clocks p) < 2 ^ 32
  pub there : IsRoot clocks.trees n
  pub base : IsBase plan (clock_of clocks) (next_of clocks p) (base_at clocks n)

abbrev pub sum_to : ℕ → (ℕ → ℕ) → ℕ
sum_to zero f = 0
sum_to (suc n) f = sum_to n f + f n

-- how many events aren't marked
abbrev pub unmarked : Plan → Clocks → ℕ
unmarked plan clocks = sum_to (process_count plan) (λ p. event_count plan p - marked_count clocks p)

-- no event more is marked, and each base stays, and says what it said
pub record IsGrown (old new : Clocks) : Type 0 where
  pub roots : new.roots.items ≡ old.roots.items
  pub updates : new.updates ≡ old.updates
  pub trees : Keeps old.trees new.trees

-- p's next event is marked, with the base of this root
pub record MarksNext (old new : Clocks) (p n : ℕ) : Type 0 where
  pub trees : new.trees ≡ old.trees
  pub same : length new.roots.items ≡ length old.roots.items
  pub here : items_at new.roots.items p ≡ items_at old.roots.items p ++ n ∷ []
  pub others : (q : ℕ) → q ≢ p → items_at new.roots.items q ≡ items_at old.roots.items q

-- z is noted under each name that it can change
abbrev pub Notes : Plan → Event → Clocks → Clocks → Type 0
Notes plan z old new = (name : ℕ) → IsUpdateNoted plan z name (updates_at old.updates name) (updates_at new.updates name)

abbrev pub root_or_zero : Option ℕ → ℕ
root_or_zero None = 0
root_or_zero (Some n) = n

-- the root of the base of the event before, that of zeros where there is none
abbrev pub root_before : Clocks → Option Event → ℕ
root_before clocks None = 0
root_before clocks (Some z) = root_or_zero (root_at clocks z)

-- whether z counts the event x
abbrev pub Counts : Clocks → Option Event → Event → Type 0
Counts clocks None x = ⊥
Counts clocks (Some z) x = x.at < clock_of clocks z x.proc

-- the base of the event before, raised to the clock of what is awaited where that event doesn't count it
pub record IsRaised (clocks : Clocks) (previous awaited : Option Event) (base : ℕ → ℕ) : Type 0 where
  pub from : (q n : ℕ) → n < base q → (n < base_at clocks (root_before clocks previous) q) ⊎ ((z : Event) × (awaited ≡ Some z) × (n < clock_of clocks z q))
  pub keeps : (q : ℕ) → base_at clocks (root_before clocks previous) q ≤ base q
  pub covers : (z : Event) → awaited ≡ Some z → Counts clocks previous z ⊎ ((q : ℕ) → clock_of clocks z q ≤ base q)
