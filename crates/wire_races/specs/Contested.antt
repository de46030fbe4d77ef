-- Names on which two events may race: for the contracts of private functions.
use Rattle.std.specs.Prelude.{◌≡◌, ℕ, Bool, true, ◌&&◌, ◌||◌, List}
use Rattle.std.specs.List.{Contains}
use Rattle.wire_runs.specs.Plan.{Plan, Event, kind}
use Rattle.wire_runs.specs.Names.{writes_name, calls_name}

-- whether the first can change the name, and the second is a call on it
abbrev pub is_disturbed : Plan → ℕ → Event → Event → Bool
is_disturbed plan name x y = writes_name plan name x (kind plan x) && calls_name plan name y (kind plan y)

-- the same in either order
abbrev pub is_contested : Plan → ℕ → Event → Event → Bool
is_contested plan name x y = is_disturbed plan name x y || is_disturbed plan name y x

-- one of these names is contested
abbrev pub IsOneContested : Plan → List ℕ → Event → Event → Type 0
IsOneContested plan names x y = (name : ℕ) × Contains names name × (is_contested plan name x y ≡ true)

-- each name on which the event is a call is among these
abbrev pub HasNamesOf : Plan → Event → List ℕ → Type 0
HasNamesOf plan x names = (name : ℕ) → calls_name plan name x (kind plan x) ≡ true → Contains names name
