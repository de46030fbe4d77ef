-- What a tree of rows stands for: a number for each process.
use Rattle.std.specs.Prelude.{◌≡◌, ◌<◌, ◌≤◌, ◌/◌, ◌%◌, ◌^◌, ℕ, zero, suc, List, [], Option, Some, None, length}
use Rattle.std.specs.Prelude.{slice_get, slice_index, Bool, true, nat_lt, ◌&&◌}
use Rattle.std.specs.List.{list_all}

-- the numbers of a row, and none past the last row
abbrev pub numbers_in : Option (List ℕ) → List ℕ
numbers_in None = []
numbers_in (Some numbers) = numbers

-- the number at i of a row, 0 past its end and past the last row
abbrev pub entry : List (List ℕ) → ℕ → ℕ → ℕ
entry rows n i = slice_index (numbers_in (slice_get rows n)) i

-- what a tree says of the process p: a tree of height 0 is the number itself, and a higher one is a row whose numbers
-- are its subtrees, each of 16 ^ k processes
unfoldable pub tree_says : List (List ℕ) → ℕ → ℕ → ℕ → ℕ
tree_says rows zero tree p = tree
tree_says rows (suc k) tree p = tree_says rows k (entry rows tree (p / 16 ^ k)) (p % 16 ^ k)

-- the rows of the tree are there
unfoldable pub IsTree : List (List ℕ) → ℕ → ℕ → Type 0
IsTree rows zero tree = Unit {0}
IsTree rows (suc k) tree = (tree < length rows) × ((i : ℕ) → IsTree rows k (entry rows tree i))

-- whether all rows of the tree are there
unfoldable pub is_tree : List (List ℕ) → ℕ → ℕ → Bool
is_tree rows zero tree = true
is_tree rows (suc k) tree = nat_lt tree (length rows) && list_all (is_tree rows k) (numbers_in (slice_get rows tree))

-- row 0 is there, and is all zeros
pub record IsZero (rows : List (List ℕ)) : Type 0 where
  pub there : 0 < length rows
  pub zeros : (i : ℕ) → entry rows 0 i ≡ 0

-- each row stays as it is
pub record KeepsRows (old new : List (List ℕ)) : Type 0 where
  pub longer : length old ≤ length new
  pub same : (n i : ℕ) → n < length old → entry new n i ≡ entry old n i
