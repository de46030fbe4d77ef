-- Which selections are listed, and that those with fewer processes come first.
use Rattle.std.proofs.Common.{◌≡◌, ap, subst, ℕ, zero, suc, ◌+◌, ◌≤◌, ◌<◌, List, [], ◌∷◌, length, Bool, true, false, ◌==◌, Some, inl, inr, arith}
use Rattle.std.specs.Prelude.{slice_get, flat_map}
use Rattle.std.proofs.lemmas.Bool.{cond-true, cond-false, cases_Bool, eqb-true}
use Rattle.wire_pattern.specs.Pattern.{Pattern}
use Rattle.wire_cutoff_laws.specs.Sizes.{all_sizes, total_of, numbers_from}
use Rattle.wire_cutoff_laws.specs.Choices.{optional_turns}
use Rattle.wire_cutoff.specs.Selections.{Selection, most_sizes, ways, select, of_sizes, of_total, selections}
use Rattle.wire_cutoff.specs.Ordered.{IsSelection, SelectionsAreAll, FirstHasFewest}
use Rattle.wire_cutoff.proofs.Members.{In, in_parts, in_place, at_place, map_in, flat_in, left_before, right_before}
use Rattle.wire_cutoff.proofs.Listed.{sizes_are}
use Rattle.wire_cutoff.proofs.Selected.{selection_there}

way_count : (count : ℕ) (behind w : List Bool) → In w (ways count behind) → length w ≡ count + length behind
way_count zero behind w (inl e) = let same : length behind ≡ length w = ap length e in omega (arith, same)
way_count zero behind w (inr h) = absurd h
way_count (suc count) behind w h = elim (in_parts w (ways count (false ∷ behind)) (ways count (true ∷ behind)) h) [
  | inl a ↦ let c = way_count count (false ∷ behind) w a in omega (arith, c)
  | inr b ↦ let c = way_count count (true ∷ behind) w b in omega (arith, c)
]

-- a selection with so many processes in all
abbrev IsOfTotal : Pattern → ℕ → Selection → Type 0
IsOfTotal p total s = IsSelection p s × (total_of s.sizes ≡ total)

of_total_is : (p : Pattern) (total : ℕ) (s : Selection) → In s (of_total p (all_sizes p.roles) total) → IsOfTotal p total s
of_total_is p total s there =
    let l = flat_in _ s (all_sizes p.roles) there in
    elim (cases_Bool (total_of l.0 == total)) [
      | inl y ↦ one l.0 l.1 (eqb-true (total_of l.0) total y) (map_in (select l.0) s (ways (length (optional_turns p l.0)) [])
          (subst (In s) (cond-true _ (of_sizes p l.0) [] y) l.2))
      | inr n ↦ absurd (subst (In s) (cond-false _ (of_sizes p l.0) [] n) l.2)
    ]
  where
    one : (sizes : List ℕ) → In sizes (all_sizes p.roles) → total_of sizes ≡ total
        → (w : List Bool) × In w (ways (length (optional_turns p sizes)) []) × (select sizes w ≡ s) → IsOfTotal p total s
    one sizes fit same m =
        let count = way_count (length (optional_turns p sizes)) [] m.0 m.1 in
        subst (IsOfTotal p total) m.2 (record { sizes = sizes_are p.roles sizes fit; taken = omega (arith, count) }, same)

selection_is : (p : Pattern) (s : Selection) → In s (selections p) → IsSelection p s
selection_is p s there =
    let t = flat_in (of_total p (all_sizes p.roles)) s (numbers_from 0 (suc (total_of (most_sizes p.roles)))) there in
    (of_total_is p t.0 s t.2).0

pub selections_are_all : SelectionsAreAll
selections_are_all p = record {
  each = λ s is. in_place s (selections p) (selection_there p s.sizes s.taken is.sizes is.taken);
  only = λ i s is. selection_is p s (at_place s (selections p) i is);
}

module _ (p : Pattern) where
  abbrev f : ℕ → List Selection
  f = of_total p (all_sizes p.roles)

  total_from : (n count : ℕ) (s : Selection) → In s (flat_map f (numbers_from n count)) → n ≤ total_of s.sizes
  total_from n zero s there = absurd there
  total_from n (suc count) s there = elim (in_parts s (f n) (flat_map f (numbers_from (suc n) count)) there) [
    | inl a ↦ let t = (of_total_is p n s a).1 in omega (arith, t)
    | inr b ↦ let t = total_from (suc n) count s b in omega (arith, t)
  ]

  -- one with fewer processes comes before
  lower_before : (n count i : ℕ) (s other : Selection) → slice_get (flat_map f (numbers_from n count)) i ≡ Some s
      → In other (flat_map f (numbers_from n count)) → total_of other.sizes < total_of s.sizes
      → (j : ℕ) × (j < i) × (slice_get (flat_map f (numbers_from n count)) j ≡ Some other)
  lower_before n zero i s other is there less = absurd there
  lower_before n (suc count) i s other is there less =
      let no : In s (f n) → ⊥ = λ h. (let t = (of_total_is p n s h).1 in let low = total_from n (suc count) other there in omega (arith, t, low, less)) in
      let rest = flat_map f (numbers_from (suc n) count) in
      elim (in_parts other (f n) rest there) [
        | inl a ↦ left_before (f n) rest i s other is no a
        | inr b ↦ right_before (f n) rest i s other is no (λ k at. lower_before (suc n) count k s other at b less)
      ]

pub first_has_fewest : FirstHasFewest
first_has_fewest p cast first sizes are less = λ bits count.
    let same : total_of cast.sizes ≡ total_of first.selection.sizes = ap total_of first.of.sizes in
    let at = lower_before p 0 (suc (total_of (most_sizes p.roles))) first.number first.selection (select sizes bits) first.is
    (selection_there p sizes bits are count) (omega (arith, less, same)) in
    first.before at.0 (select sizes bits) at.1 at.2
