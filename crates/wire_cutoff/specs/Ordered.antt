-- What the list of selections is, without its order of making: which selections there are, and which come first.
use Rattle.std.specs.Prelude.{◌≡◌, ◌<◌, ℕ, List, length, Some, slice_get}
use Rattle.wire_pattern.specs.Pattern.{Pattern}
use Rattle.wire_pattern.specs.Instances.{Cast}
use Rattle.wire_cutoff_laws.specs.Sizes.{AreFewSizes, total_of}
use Rattle.wire_cutoff_laws.specs.Choices.{optional_turns}
use Rattle.wire_cutoff_laws.specs.Promised.{AreSizesSettled}
use Rattle.wire_cutoff.specs.Selections.{Selection, selections, IsFirstFound}

-- few processes of each role, and for each turn that may be left out whether it is taken
pub record IsSelection (p : Pattern) (selection : Selection) : Type 0 where
  pub sizes : AreFewSizes p.roles selection.sizes
  pub taken : length selection.taken ≡ length (optional_turns p selection.sizes)

-- each of these is in the list, and nothing else
pub record ListsAll (p : Pattern) : Type 0 where
  pub each : (selection : Selection) → IsSelection p selection → (i : ℕ) × (slice_get (selections p) i ≡ Some selection)
  pub only : (i : ℕ) (selection : Selection) → slice_get (selections p) i ≡ Some selection → IsSelection p selection

abbrev pub SelectionsAreAll : Type 0
SelectionsAreAll = (p : Pattern) → ListsAll p

-- the first instance in which something is found has the fewest processes: with fewer, nothing is found
abbrev pub FirstHasFewest : Type 0
FirstHasFewest = (p : Pattern) (cast : Cast) → IsFirstFound p cast → (sizes : List ℕ) → AreFewSizes p.roles sizes
    → total_of sizes < total_of cast.sizes → AreSizesSettled p sizes
