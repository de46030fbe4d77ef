-- What the marks of a plan are: how many events of each process are live, a clock for each of them, and the live calls
-- that can change each name.
use Rattle.std.specs.Prelude.{◌≡◌, ◌⊎◌, ◌↔◌, ◌<◌, ◌==◌, ℕ, suc, List, [], Option, Some, None, Vec, max, length}
use Rattle.std.specs.Prelude.{slice_get, if◌then◌else◌}
use Rattle.std.specs.declared.alloc.Global.{Global}
use Rattle.wire_runs.specs.Plan.{Plan, Event}
use Rattle.wire_runs.specs.Order.{Live, Before}
use Rattle.wire_clocks.specs.ClockTrees.{says}
use Rattle.wire_happens_before.specs.Updates.{updates_at, AreUpdates}
use Rattle.wire_happens_before.specs.declared.clocks.Clocks.{Clocks as Kept}

-- the list in a vector of a table, and none past its end
abbrev pub list_in : {A : Type 0} → Option (Vec A Global) → List A
list_in None = []
list_in (Some v) = v.items

abbrev pub items_at : {A : Type 0} → List (Vec A Global) → ℕ → List A
items_at xs i = list_in (slice_get xs i)

-- for each live event of each process the root of its base, and the trees that these are roots of; and the updates of
-- each name
abbrev pub Clocks : Type 0
Clocks = Kept

-- how many events of the process are marked
abbrev pub marked_count : Clocks → ℕ → ℕ
marked_count clocks p = length (items_at clocks.roots.items p)

-- the root of the base of y, if y is marked
abbrev pub root_at : Clocks → Event → Option ℕ
root_at clocks y = slice_get (items_at clocks.roots.items y.proc) y.at

-- what the base of this root says of the process q
abbrev pub base_at : Clocks → ℕ → ℕ → ℕ
base_at clocks root q = says clocks.trees root q

-- how many events of the process q are y or stand before y in its process
abbrev pub own_of : Event → ℕ → ℕ
own_of y q = if q == y.proc then suc y.at else 0

-- the clock of y over the base of this root
abbrev pub clock_over : Clocks → Event → Option ℕ → ℕ → ℕ
clock_over clocks y None q = 0
clock_over clocks y (Some n) q = max (base_at clocks n q) (own_of y q)

-- what the clock of y says of the process q, 0 where y isn't marked
abbrev pub clock_of : Clocks → Event → ℕ → ℕ
clock_of clocks y q = clock_over clocks y (root_at clocks y) q

-- x is y, or before it
abbrev pub LeadsTo : Plan → Event → Event → Type 0
LeadsTo plan x y = (x ≡ y) ⊎ Before plan x y

-- the clock counts, of each process, its events that are y or before y
pub record IsClock (plan : Plan) (y : Event) (clock : ℕ → ℕ) : Type 0 where
  pub only : (x : Event) → x.at < clock x.proc → LeadsTo plan x y
  pub all : (x : Event) → LeadsTo plan x y → x.at < clock x.proc

-- the number is how many events of the process q are y or before y; it is 0 where y isn't live
pub record IsClockOf (plan : Plan) (y : Event) (q number : ℕ) : Type 0 where
  pub counts : Live plan y → (x : Event) → x.proc ≡ q → (x.at < number) ↔ LeadsTo plan x y
  pub dead : (Live plan y → ⊥) → number ≡ 0

-- the marks are this plan's: its live events, their clocks, and of each name the live events that can change it
pub record AreMarks (plan : Plan) (clocks : Clocks) : Type 0 where
  pub live : (y : Event) → (y.at < marked_count clocks y.proc) ↔ Live plan y
  pub told : (y : Event) → Live plan y → IsClock plan y (clock_of clocks y)
  pub updates : (name : ℕ) → AreUpdates plan (Live plan) name (updates_at clocks.updates name)
