-- What a clock says that is being made.
use Rattle.std.specs.Prelude.{◌≡◌, ◌*◌, ◌/◌, ◌%◌, ◌==◌, ℕ, List, max, length, slice_index, if◌then◌else◌}
use Rattle.wire_clocks.specs.ClockTrees.{Clocks, says, IsRoot, Holds}

-- a clock that is being made: the root of a clock to begin with, and the least numbers of the processes of one block of
-- 16
pub record Raise : Type 0 where
  pub base : ℕ
  pub block : ℕ
  pub least : List ℕ

-- what it begins with is a clock, and the block is one of those that the clocks have numbers for
pub record IsRaise (clocks : Clocks) (rising : Raise) : Type 0 where
  pub base : IsRoot clocks rising.base
  pub block : Holds clocks (16 * rising.block)
  pub width : length rising.least ≡ 16

-- what it says of the process q: what it begins with, and at least the block's number for q where q is one of the block
abbrev pub rising_says : Clocks → Raise → ℕ → ℕ
rising_says clocks rising q = if q / 16 == rising.block then max (says clocks rising.base q) (slice_index rising.least (q % 16)) else says clocks rising.base q
