-- The clocks of some processes. Each is known by a number, its root.
use Rattle.std.specs.Prelude.{◌≡◌, ◌<◌, ℕ, Bool, true, false, List, [], Option, Some, None, nat_lt, slice_get}
use Rattle.std.specs.Prelude.{slice_index, if◌then◌else◌}

-- what stands at a number: what it says of each process, and whether it is a clock, which stays
pub record Clock : Type 0 where
  pub numbers : List ℕ
  pub stays : Bool

-- how many processes the clocks have numbers for, and what stands at each number from 0
pub record Clocks : Type 0 where
  pub width : ℕ
  pub clocks : List Clock

-- the numbers at a place of the list, and none past its end
abbrev pub numbers_of : Option Clock → List ℕ
numbers_of None = []
numbers_of (Some clock) = clock.numbers

-- whether a clock is at a place of the list, and not past its end
abbrev pub is_clock : Option Clock → Bool
is_clock None = false
is_clock (Some clock) = clock.stays

-- the process is one of those that the clocks have numbers for
abbrev pub Holds : Clocks → ℕ → Type 0
Holds clocks process = process < clocks.width

-- what the clock with this root says of a process, 0 for one that it has no number for
abbrev pub says : Clocks → ℕ → ℕ → ℕ
says clocks root process = if nat_lt process clocks.width then slice_index (numbers_of (slice_get clocks.clocks root)) process else 0

-- the number is the root of a clock
abbrev pub IsRoot : Clocks → ℕ → Type 0
IsRoot clocks root = is_clock (slice_get clocks.clocks root) ≡ true

-- 0 is the root of the clock of zeros
pub record HasZeros (clocks : Clocks) : Type 0 where
  pub root : IsRoot clocks 0
  pub zeros : (process : ℕ) → says clocks 0 process ≡ 0

-- each clock stays, and says what it said
pub record Keeps (old new : Clocks) : Type 0 where
  pub width : new.width ≡ old.width
  pub roots : (root : ℕ) → IsRoot old root → IsRoot new root
  pub same : (root : ℕ) → IsRoot old root → (process : ℕ) → says new root process ≡ says old root process
