-- The instances that are judged, in their order: those with the fewest processes first, those with as many in the
-- lexicographic order of their sizes, and of one list of sizes each choice of the turns that may be left out.
use Rattle.std.specs.Prelude.{◌≡◌, ◌<◌, ◌==◌, ℕ, zero, suc, Bool, true, false, List, [], ◌∷◌, ◌++◌, map, flat_map, length, Some, slice_get, if◌then◌else◌}
use Rattle.wire_pattern.specs.Pattern.{Role, Pattern}
use Rattle.wire_pattern.specs.Instances.{Cast}
use Rattle.wire_cutoff_laws.specs.Sizes.{most_of, numbers_from, all_sizes, total_of}
use Rattle.wire_cutoff_laws.specs.Choices.{optional_turns, chosen_by}
use Rattle.wire_cutoff_laws.specs.Promised.{IsChoiceSettled}

-- how many processes each role has, and which of the turns that may be left out are taken
pub record Selection : Type 0 where
  pub sizes : List ℕ
  pub taken : List Bool

-- the most processes of each role that are judged
abbrev pub most_sizes : List Role → List ℕ
most_sizes roles = map most_of roles

-- all choices of so many turns, before these of the turns behind: numbers counted up, the first turn the lowest bit
abbrev pub ways : ℕ → List Bool → List (List Bool)
ways zero behind = behind ∷ []
ways (suc count) behind = ways count (false ∷ behind) ++ ways count (true ∷ behind)

abbrev pub select : List ℕ → List Bool → Selection
select sizes taken = record { sizes = sizes; taken = taken }

-- those of one list of sizes
abbrev pub of_sizes : Pattern → List ℕ → List Selection
of_sizes p sizes = map (select sizes) (ways (length (optional_turns p sizes)) [])

-- those of these sizes that have so many processes in all
abbrev pub of_total : Pattern → List (List ℕ) → ℕ → List Selection
of_total p lists total = flat_map (λ sizes. if total_of sizes == total then of_sizes p sizes else []) lists

abbrev pub selections : Pattern → List Selection
selections p = flat_map (of_total p (all_sizes p.roles)) (numbers_from 0 (suc (total_of (most_sizes p.roles))))

-- with these turns nothing is found in the instance, whatever its nodes
abbrev pub IsSelectionSettled : Pattern → Selection → Type 0
IsSelectionSettled p selection =
    IsChoiceSettled p selection.sizes (chosen_by (optional_turns p selection.sizes) selection.taken)

-- the cast has the sizes and the turns of the selection
pub record IsCastFor (p : Pattern) (selection : Selection) (cast : Cast) : Type 0 where
  pub sizes : cast.sizes ≡ selection.sizes
  pub chosen : cast.chosen ≡ chosen_by (optional_turns p selection.sizes) selection.taken

-- the cast's selection is one of these, and nothing is found in the instances before it
pub record IsFirstFound (p : Pattern) (cast : Cast) : Type 0 where
  pub number : ℕ
  pub selection : Selection
  pub is : slice_get (selections p) number ≡ Some selection
  pub of : IsCastFor p selection cast
  pub before : (i : ℕ) (s : Selection) → i < number → slice_get (selections p) i ≡ Some s → IsSelectionSettled p s
