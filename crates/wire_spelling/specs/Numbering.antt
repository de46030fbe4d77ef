-- How sets are numbered: for the contracts of private functions.
use Rattle.std.specs.Prelude.{◌≡◌, ◌↔◌, ℕ, ◌-◌, ◌||◌, ◌&&◌, Bool, false, List, [], ◌∷◌, Option, Some, None, slice_get, IsTrue, codes, length, take, drop}
use Rattle.wire_types.specs.Said.{begins_with}
use Rattle.std.specs.Str.{bytes_eq}
use Rattle.std.specs.Ordering.{nat_cmp, is_lt}
use Rattle.std.specs.Cmp.Lexicographic.{slice_cmp}
use Rattle.wire_spelling.specs.Spelling.{SpelledSet, items_of, times, HasTwice}
use Rattle.wire_spelling.specs.declared.spelling.Spelt.{Spelt}

-- none of these is less than an item
abbrev pub AreFrom : List ℕ → List (List ℕ) → Type 0
AreFrom x [] = Unit {0}
AreFrom x (y ∷ ys) = (is_lt (slice_cmp nat_cmp y x) ≡ false) × AreFrom x ys

-- none is less than one in front of it
abbrev pub AreAscending : List (List ℕ) → Type 0
AreAscending [] = Unit {0}
AreAscending (x ∷ xs) = AreFrom x xs × AreAscending xs

-- whether an item is all processes of a job, and the other one of that job
abbrev pub holds : List ℕ → List ℕ → Bool
holds whole item = bytes_eq (codes ":*") (drop (length whole - 2) whole) && begins_with (take (length whole - 1) whole) item

-- whether two items name a process or a job twice
abbrev pub overlap : List ℕ → List ℕ → Bool
overlap x y = bytes_eq x y || (holds x y || holds y x)

-- whether an item and the first of these, or two neighbours of these, name a process or a job twice
abbrev pub repeats_after : List ℕ → List (List ℕ) → Bool
repeats_after x [] = false
repeats_after x (y ∷ ys) = overlap x y || repeats_after y ys

-- whether two neighbours do
abbrev pub has_neighbours : List (List ℕ) → Bool
has_neighbours [] = false
has_neighbours (x ∷ xs) = repeats_after x xs

-- the items of a set in ascending order
pub record IsSetInOrder (set : SpelledSet) (items : List (List ℕ)) : Type 0 where
  pub ascending : AreAscending items
  pub same : (item : List ℕ) → times item items ≡ times item (items_of set)

-- no list stands there twice
abbrev pub AreSetsDistinct : List (List (List ℕ)) → Type 0
AreSetsDistinct table = (m n : ℕ) (items : List (List ℕ)) → slice_get table m ≡ Some items → slice_get table n ≡ Some items → m ≡ n

-- what stands in a table stands in the other at the same place
abbrev pub KeepsSets : List (List (List ℕ)) → List (List (List ℕ)) → Type 0
KeepsSets old new = (n : ℕ) (items : List (List ℕ)) → slice_get old n ≡ Some items → slice_get new n ≡ Some items

-- the number of a set is the place of its items in order
pub record IsSetNumbered (table : List (List (List ℕ))) (set : SpelledSet) (spelt : Spelt) : Type 0 where
  pub items : List (List ℕ)
  pub order : IsSetInOrder set items
  pub there : slice_get table spelt.number ≡ Some items
  pub twice : IsTrue spelt.repeats ↔ HasTwice set

abbrev pub IsCallTold : List (List (List ℕ)) → Option SpelledSet → Option Spelt → Type 0
IsCallTold table None None = Unit {0}
IsCallTold table None (Some spelt) = ⊥
IsCallTold table (Some set) None = ⊥
IsCallTold table (Some set) (Some spelt) = IsSetNumbered table set spelt

-- so it is of each call of a row, and of each row
abbrev pub IsRowTold : List (List (List ℕ)) → List (Option SpelledSet) → List (Option Spelt) → Type 0
IsRowTold table [] [] = Unit {0}
IsRowTold table (set ∷ sets) (spelt ∷ spelts) = IsCallTold table set spelt × IsRowTold table sets spelts
IsRowTold table _ _ = ⊥

abbrev pub AreRowsTold : List (List (List ℕ)) → List (List (Option SpelledSet)) → List (List (Option Spelt)) → Type 0
AreRowsTold table [] [] = Unit {0}
AreRowsTold table (set ∷ sets) (spelt ∷ spelts) = IsRowTold table set spelt × AreRowsTold table sets spelts
AreRowsTold table _ _ = ⊥
