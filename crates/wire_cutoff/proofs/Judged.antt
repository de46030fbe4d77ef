-- The instances one by one: those before one are settled, and the first that isn't is the counterexample.
use Rattle.std.proofs.Common.{◌≡◌, ◌∙◌, ap, sym, subst, refl, ℕ, ◌+◌, ◌<◌, ◌≤◌, ◌^◌, List, [], ◌∷◌, ◌++◌, Bool, length, map, drop, append-nil, Result, Ok, Err, Option, None, Some, inl, inr, arith, get_or}
use Rattle.std.specs.Prelude.{slice_get, option_map, IfOk, IfSome}
use Rattle.wire_types.specs.declared.Fault.{Fault}
use Rattle.std.proofs.lemmas.Bool.{cases_eq}
use Rattle.std.proofs.lemmas.List.{length-map, drop_all}
use Rattle.std.proofs.lemmas.Option.{slice_get-map, slice_get_read, slice_get_within, same_Some}
use Rattle.wire_pattern.specs.Pattern.{Pattern}
use Rattle.wire_pattern.specs.Instances.{Turn, Cast, roles_from}
use Rattle.wire_cutoff_laws.specs.Sizes.{AreFewSizes, total_of}
use Rattle.wire_cutoff_laws.specs.Choices.{callers_turns, optional_turns, chosen_by}
use Rattle.wire_cutoff_laws.specs.Promised.{AreFewSettled, IsChoiceSettled}
use Rattle.wire_cutoff.specs.declared.selections.Selection.{Selection}
use Rattle.wire_cutoff.specs.declared.counterexample.Counterexample.{Counterexample}
use Rattle.wire_instances.specs.Views.{cast_by}
use Rattle.wire_cutoff.specs.FirstNodes.{AreFirstNodes}
use Rattle.wire_cutoff.proofs.FirstNodes.{nodes_moved}
use Rattle.wire_cutoff.specs.Selections as spec
use Rattle.wire_cutoff.specs.Selections.{most_sizes, selections, IsSelectionSettled, IsCastFor}
use Rattle.wire_cutoff.specs.Views.{selection_by, IsShownFor, IsFoundAt, IsFoundFor}
use Rattle.wire_cutoff.proofs.Selected.{few_settled, selections_are, selections_few}

-- those before this one are settled
abbrev pub AreSettledTo : Pattern → List Selection → ℕ → Type 0
AreSettledTo p all n = (k : ℕ) (s : spec.Selection) → k < n → slice_get (map selection_by all) k ≡ Some s → IsSelectionSettled p s

selected_at : (all : List Selection) (i : ℕ) (v : Selection) → i < length all → v ≡ get_or all i v → slice_get (map selection_by all) i ≡ Some (selection_by v)
selected_at all i v lt at = slice_get-map selection_by all i ∙ ap (option_map selection_by) (slice_get_read all (length all) i v refl lt at)

listed_at : (p : Pattern) (all : List Selection) (i : ℕ) (v : Selection) → map selection_by all ≡ selections p → i < length all → v ≡ get_or all i v
    → slice_get (selections p) i ≡ Some (selection_by v)
listed_at p all i v is lt at = ap (λ ss. slice_get ss i) (sym is) ∙ selected_at all i v lt at

pub item_sizes : (p : Pattern) (all : List Selection) (i : ℕ) (v : Selection) → map selection_by all ≡ selections p → i < length all → v ≡ get_or all i v
    → AreFewSizes p.roles v.sizes.items
item_sizes p all i v is lt at = selections_are p i (selection_by v) (listed_at p all i v is lt at)

pub item_total : (p : Pattern) (all : List Selection) (i : ℕ) (v : Selection) → map selection_by all ≡ selections p → i < length all → v ≡ get_or all i v
    → total_of (most_sizes p.roles) < 2 ^ 31 → total_of v.sizes.items < 2 ^ 31
item_total p all i v is lt at few = selections_few p i (selection_by v) (listed_at p all i v is lt at) few

pub one_more : (p : Pattern) (all : List Selection) (i : ℕ) (v : Selection) → i < length all → v ≡ get_or all i v → AreSettledTo p all i
    → IsSelectionSettled p (selection_by v) → AreSettledTo p all (i + 1)
one_more p all i v lt at before here = λ k s less is. elim (cases_eq k i) [ inl e ↦ now k s e is | inr ne ↦ before k s (omega (arith, less, ne)) is ]
  where
    now : (k : ℕ) (s : spec.Selection) → k ≡ i → slice_get (map selection_by all) k ≡ Some s → IsSelectionSettled p s
    now k s e is = subst (IsSelectionSettled p) (same_Some (selection_by v) s (sym (selected_at all i v lt at) ∙ sym (ap (slice_get (map selection_by all)) e) ∙ is)) here

pub all_settled : (p : Pattern) (all : List Selection) (i : ℕ) → map selection_by all ≡ selections p → length all ≤ i → AreSettledTo p all i → AreFewSettled p
all_settled p all i is past before = few_settled p (λ k s at.
    let there : slice_get (map selection_by all) k ≡ Some s = ap (λ ss. slice_get ss k) is ∙ at in
    let within = slice_get_within (map selection_by all) k s there in
    let count : length (map selection_by all) ≡ length all = length-map all selection_by in
    before k s (omega (arith, within, count, past)) there)

pub first_found : (p : Pattern) (all : List Selection) (i : ℕ) (v : Selection) (c : Counterexample) → map selection_by all ≡ selections p → i < length all
    → v ≡ get_or all i v → AreSettledTo p all i → IsFoundAt p (selection_by v) c → IsFoundFor p c
first_found p all i v c is lt at before found = record {
  shows = found.shows;
  nodes = found.nodes;
  first = record {
    number = i;
    selection = selection_by v;
    is = listed_at p all i v is lt at;
    of = found.of;
    before = λ k s less there. before k s less (ap (λ ss. slice_get ss k) is ∙ there);
  };
}

-- what is shown of a cast is found at its selection
found_at : (p : Pattern) (s : spec.Selection) (cast : Cast) (c : Counterexample) → IsCastFor p s cast → IsShownFor p cast c
    → AreFirstNodes p cast c.cast.nodes.of.items → IsFoundAt p s c
found_at p s cast c of shown nodes = record {
  shows = shown.0;
  of = record { sizes = shown.1.0 ∙ of.sizes; chosen = shown.1.1 ∙ of.chosen };
  nodes = nodes_moved p cast (cast_by c.cast) c.cast.nodes.of.items shown.1 nodes;
}

pub found_by : (p : Pattern) (s : spec.Selection) (cast : Cast) (r : Result (Option Counterexample) Fault) → IsCastFor p s cast
    → IfOk r (λ found. IfSome found (λ c. IsShownFor p cast c)) → IfOk r (λ found. IfSome found (λ c. AreFirstNodes p cast c.cast.nodes.of.items))
    → IfOk r (λ found. IfSome found (λ c. IsFoundAt p s c))
found_by p s cast (Err e) of shown nodes = tt
found_by p s cast (Ok None) of shown nodes = tt
found_by p s cast (Ok (Some c)) of shown nodes = found_at p s cast c of shown nodes

pub settled_at : (p : Pattern) (s : spec.Selection) (cast : Cast) → IsCastFor p s cast → IsChoiceSettled p cast.sizes cast.chosen → IsSelectionSettled p s
settled_at p s cast of settled =
    subst (λ cs. IsChoiceSettled p s.sizes cs) of.chosen (subst (λ ns. IsChoiceSettled p ns cast.chosen) of.sizes settled)

-- the turns of a selection
pub turns_chosen : (p : Pattern) (sizes roles : List ℕ) (turns : List Turn) (taken : List Bool) (chosen : List (Turn × Bool)) → roles ≡ roles_from 0 sizes
    → turns ≡ callers_turns p roles 0 roles → chosen ≡ chosen_by turns taken → chosen ≡ chosen_by (optional_turns p sizes) taken
turns_chosen p sizes roles turns taken chosen are is by = by ∙ ap (λ ts. chosen_by ts taken) (is ∙ ap (λ rs. callers_turns p rs 0 rs) are)

-- no turn is listed behind the last bit
pub no_bits : (before whole : List (Turn × Bool)) (turns : List Turn) (n : ℕ) (bits : List Bool) → length bits ≤ n
    → before ++ chosen_by turns (drop n bits) ≡ whole → before ≡ whole
no_bits before whole turns n bits past is =
    sym (append-nil before) ∙ ap (λ rest. before ++ rest) (sym (ap (chosen_by turns) (drop_all n bits past) ∙ none turns)) ∙ is
  where
    none : (ts : List Turn) → chosen_by ts [] ≡ []
    none [] = refl
    none (t ∷ ts) = refl
