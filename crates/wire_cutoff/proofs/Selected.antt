-- The selections: with few processes of each role each choice of turns is among them, and each of them is one of these.
use Rattle.std.proofs.Common.{◌≡◌, ◌∙◌, ap, sym, subst, refl, ℕ, zero, suc, ◌+◌, ◌<◌, ◌^◌, List, [], ◌∷◌, ◌++◌, length, Bool, true, false, ◌==◌, Some, inl, inr, append_assoc, append-nil, arith}
use Rattle.std.specs.Prelude.{slice_get}
use Rattle.std.proofs.lemmas.Bool.{cond-true, cond-false, cases_Bool, eq-eqb}
use Rattle.wire_pattern.specs.Pattern.{Pattern}
use Rattle.wire_cutoff_laws.specs.Sizes.{AreFewSizes, all_sizes, total_of, numbers_from}
use Rattle.wire_cutoff_laws.specs.Choices.{optional_turns}
use Rattle.wire_cutoff_laws.specs.Promised.{AreFewSettled}
use Rattle.wire_cutoff.specs.Selections.{Selection, most_sizes, ways, select, of_sizes, of_total, selections, IsSelectionSettled}
use Rattle.wire_cutoff.proofs.Members.{In, in_left, in_right, in_place, at_place, in_map, map_in, in_flat, flat_in}
use Rattle.wire_cutoff.proofs.Listed.{number_in, sizes_there, sizes_are, sizes_bounded}

-- a list ends in a last one
record EndsIn (whole : List Bool) : Type 0 where
  front : List Bool
  last : Bool
  is : whole ≡ front ++ last ∷ []
  count : suc (length front) ≡ length whole

ends_in : (x : Bool) (xs : List Bool) → EndsIn (x ∷ xs)
ends_in x [] = record { front = []; last = x; is = refl; count = refl }
ends_in x (y ∷ ys) = let e = ends_in y ys in record { front = x ∷ e.front; last = e.last; is = ap (λ w. x ∷ w) e.is; count = ap suc e.count }

-- a way that ends in this last one
ended : (count : ℕ) (front behind : List Bool) (last : Bool) → ((b : Bool) → In (front ++ b ∷ behind) (ways count (b ∷ behind)))
    → In (front ++ last ∷ behind) (ways (suc count) behind)
ended count front behind false there = in_left (front ++ false ∷ behind) (ways count (false ∷ behind)) (ways count (true ∷ behind)) (there false)
ended count front behind true there = in_right (front ++ true ∷ behind) (ways count (false ∷ behind)) (ways count (true ∷ behind)) (there true)

way_there : (count : ℕ) (front behind : List Bool) → length front ≡ count → In (front ++ behind) (ways count behind)
way_there zero [] behind is = inl refl
way_there zero (x ∷ xs) behind is = absurd (omega (arith, is))
way_there (suc count) [] behind is = absurd (omega (arith, is))
way_there (suc count) (x ∷ xs) behind is =
    let e : EndsIn (x ∷ xs) = ends_in x xs in
    let fewer : length e.front ≡ count = omega (arith, e.count, is) in
    subst (λ w. In w (ways (suc count) behind)) (sym (ap (λ w. w ++ behind) e.is ∙ append_assoc e.front (e.last ∷ []) behind))
    (ended count e.front behind e.last (λ b. way_there count e.front (b ∷ behind) fewer))

of_sizes_there : (p : Pattern) (sizes : List ℕ) (bits : List Bool) → length bits ≡ length (optional_turns p sizes) → In (select sizes bits) (of_sizes p sizes)
of_sizes_there p sizes bits count =
    in_map (select sizes) bits (ways (length (optional_turns p sizes)) [])
    (subst (λ w. In w (ways (length (optional_turns p sizes)) [])) (append-nil bits) (way_there (length (optional_turns p sizes)) bits [] count))

pub selection_there : (p : Pattern) (sizes : List ℕ) (bits : List Bool) → AreFewSizes p.roles sizes → length bits ≡ length (optional_turns p sizes)
    → In (select sizes bits) (selections p)
selection_there p sizes bits are count =
    in_flat (of_total p (all_sizes p.roles)) (total_of sizes) (select sizes bits) (numbers_from 0 (suc (total_of (most_sizes p.roles))))
    (number_in 0 (suc (total_of (most_sizes p.roles))) (total_of sizes) (omega arith) few)
    (in_flat _ sizes (select sizes bits) (all_sizes p.roles) (sizes_there p.roles sizes are)
    (subst (In (select sizes bits)) (sym (cond-true _ (of_sizes p sizes) [] (eq-eqb (total_of sizes) (total_of sizes) refl))) (of_sizes_there p sizes bits count)))
  where
    few : total_of sizes < 0 + suc (total_of (most_sizes p.roles))
    few = let b = sizes_bounded p.roles sizes are in omega (arith, b)

pub selection_sizes : (p : Pattern) (s : Selection) → In s (selections p) → AreFewSizes p.roles s.sizes
selection_sizes p s there =
    let t = flat_in (of_total p (all_sizes p.roles)) s (numbers_from 0 (suc (total_of (most_sizes p.roles)))) there in
    let l = flat_in _ s (all_sizes p.roles) t.2 in
    elim (cases_Bool (total_of l.0 == t.0)) [
      | inl y ↦ let m = map_in (select l.0) s (ways (length (optional_turns p l.0)) []) (subst (In s) (cond-true _ (of_sizes p l.0) [] y) l.2) in
          subst (AreFewSizes p.roles) (ap (λ (x : Selection). x.sizes) m.2) (sizes_are p.roles l.0 l.1)
      | inr n ↦ absurd (subst (In s) (cond-false _ (of_sizes p l.0) [] n) l.2)
    ]

pub selections_are : (p : Pattern) (i : ℕ) (s : Selection) → slice_get (selections p) i ≡ Some s → AreFewSizes p.roles s.sizes
selections_are p i s is = selection_sizes p s (at_place s (selections p) i is)

pub selections_few : (p : Pattern) (i : ℕ) (s : Selection) → slice_get (selections p) i ≡ Some s → total_of (most_sizes p.roles) < 2 ^ 31
    → total_of s.sizes < 2 ^ 31
selections_few p i s is few = let b = sizes_bounded p.roles s.sizes (selections_are p i s is) in omega (arith, b, few)

-- where nothing is found in any of them, nothing is with few processes
pub few_settled : (p : Pattern) → ((i : ℕ) (s : Selection) → slice_get (selections p) i ≡ Some s → IsSelectionSettled p s) → AreFewSettled p
few_settled p settled = λ sizes are bits count.
    let at = in_place (select sizes bits) (selections p) (selection_there p sizes bits are count) in settled at.0 (select sizes bits) at.1
