-- What notes stand for: each is a clock that says a little more than the clock below it.
use Rattle.std.specs.Prelude.{◌≡◌, ◌<◌, ◌≤◌, ◌-◌, ◌/◌, ◌%◌, ◌^◌, ◌==◌, ◌&&◌, ℕ, zero, suc, Bool, true, List, Option}
use Rattle.std.specs.Prelude.{Some, None, nat_lt, max, length, slice_get, slice_index, if◌then◌else◌}
use Rattle.wire_clocks.specs.declared.notes.Note.{Note}
use Rattle.wire_clocks.specs.declared.notes.RisingTree.{RisingTree}
use Rattle.wire_clocks.specs.Rows.{tree_says, IsTree, is_tree}

-- how many notes stand above a tree at most, and how many where one more is to stand there
abbrev pub most_notes : ℕ
most_notes = 16

abbrev pub most_below : ℕ
most_below = 15

-- the root of a tree is an even number, twice its top row, and the root of a note an odd one
pub record IsTopOf (tree root : ℕ) : Type 0 where
  pub even : root % 2 ≡ 0
  pub half : root / 2 ≡ tree

-- the note with this root, if it is a note's
abbrev pub note_at : List Note → ℕ → Option Note
note_at notes root = if root % 2 == 0 then None else slice_get notes (root / 2)

-- the same where k notes may stand above a tree
abbrev pub next_note : List Note → ℕ → ℕ → Option Note
next_note notes zero root = None
next_note notes (suc k) root = note_at notes root

-- whether a process is in the block of 16 processes of this note's process, if there is a note
abbrev pub is_near : ℕ → Option Note → Bool
is_near process None = true
is_near process (Some note) = note.process / 16 == process / 16

-- what a note says of the process q: at least its number where q is its process, and else what the clock below it says
abbrev pub raised_at : ℕ → ℕ → ℕ → ℕ → ℕ
raised_at process number q below = if q == process then max below number else below

-- what the clock of a root says of the process q: what its note does, where it is a note's, else what its tree does
abbrev pub number_by_note : Option Note → ℕ → (ℕ → ℕ) → ℕ → ℕ
number_by_note None q below tree = tree
number_by_note (Some note) q below tree = raised_at note.process note.number q (below note.below)

-- what the clock with this root says of the process q, where at most k notes stand above its tree
unfoldable pub clock_number : List (List ℕ) → List Note → ℕ → ℕ → ℕ → ℕ → ℕ
clock_number rows notes height zero root q = tree_says rows height (root / 2) q
clock_number rows notes height (suc k) root q =
    number_by_note (note_at notes root) q (λ below. clock_number rows notes height k below q) (tree_says rows height (root / 2) q)

-- whether the rows of the tree with this root are there
abbrev pub is_top : List (List ℕ) → ℕ → ℕ → Bool
is_top rows height root = root % 2 == 0 && is_tree rows height (root / 2)

-- whether a root is a clock's: its note's process is one of those of a tree, and the clock below it is there; or its
-- tree is there, where it is no note's
abbrev pub stands_by_note : Option Note → ℕ → (ℕ → Bool) → Bool → Bool
stands_by_note None height below top = top
stands_by_note (Some note) height below top = nat_lt note.process (16 ^ height) && below note.below

-- whether at most k notes stand above the tree of this root, and they and the tree are there
unfoldable pub clock_stands : List (List ℕ) → List Note → ℕ → ℕ → ℕ → Bool
clock_stands rows notes height zero root = is_top rows height root
clock_stands rows notes height (suc k) root = stands_by_note (note_at notes root) height (clock_stands rows notes height k) (is_top rows height root)

-- each note stays as it is
pub record KeepsNotes (old new : List Note) : Type 0 where
  pub longer : length old ≤ length new
  pub same : (n : ℕ) → n < length old → slice_get new n ≡ slice_get old n

-- the clock with this root is the note
pub record IsNotedClock (old new : List Note) (note : Note) (root : ℕ) : Type 0 where
  pub odd : root % 2 ≡ 1
  pub there : slice_get new (root / 2) ≡ Some note

-- a tree is there that is to be raised at a block of 16 processes
pub record IsRisingTree (rows : List (List ℕ)) (height : ℕ) (rising : RisingTree) : Type 0 where
  pub tree : IsTree rows height rising.tree
  pub block : rising.block < 16 ^ (height - 1)
  pub width : length rising.least ≡ 16

-- what it says of the process q when it is raised
abbrev pub rising_tree_says : List (List ℕ) → ℕ → RisingTree → ℕ → ℕ
rising_tree_says rows height rising q =
    if q / 16 == rising.block then max (tree_says rows height rising.tree q) (slice_index rising.least (q % 16))
    else tree_says rows height rising.tree q
