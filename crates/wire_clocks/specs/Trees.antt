-- Which clocks trees of rows and notes stand for.
use Rattle.std.specs.Prelude.{◌<◌, ◌≤◌, ◌*◌, ◌^◌, ℕ, List, length, map, max}
use Rattle.std.specs.List.{range_with_len}
use Rattle.wire_clocks.specs.declared.notes.Note.{Note}
use Rattle.wire_clocks.specs.Rows.{IsZero}
use Rattle.wire_clocks.specs.Notes.{most_notes, clock_number, clock_stands}
use Rattle.wire_clocks.specs.ClockTrees.{Clock, Clocks}

-- what stands at a root: a tree with no more notes above it than most_notes is a clock
abbrev pub clock_at : List (List ℕ) → List Note → ℕ → ℕ → Clock
clock_at rows notes height root = record {
  numbers = map (clock_number rows notes height most_notes root) (range_with_len 0 (16 ^ height));
  stays = clock_stands rows notes height most_notes root;
}

-- what the trees of this height and the notes stand for
abbrev pub clocks_of : List (List ℕ) → List Note → ℕ → Clocks
clocks_of rows notes height = record {
  width = 16 ^ height;
  clocks = map (clock_at rows notes height) (range_with_len 0 (2 * max (length rows) (length notes)));
}

-- the trees are not too high for numbers of 32 bits, and row 0 is the tree of zeros
pub record AreTrees (rows : List (List ℕ)) (height : ℕ) : Type 0 where
  pub zero : IsZero rows
  pub shallow : height ≤ 8
  pub high : 0 < height
