-- What is noted of the instances that are judged, one after the other.
use Rattle.std.proofs.Common.{◌≡◌, ◌∙◌, ap, sym, subst, refl, ℕ, ◌+◌, ◌<◌, ◌≤◌, ◌||◌, List, Bool, true, false, length, map, Some, inl, inr, ◌⊎◌, ◌↔◌, get_or, arith}
use Rattle.std.specs.Prelude.{slice_get, option_map}
use Rattle.std.proofs.lemmas.Bool.{true≢false, cases_eq}
use Rattle.std.proofs.lemmas.List.{length-map}
use Rattle.std.proofs.lemmas.Option.{slice_get-map, slice_get_read, slice_get_within, same_Some}
use Rattle.wire_pattern.specs.Pattern.{Pattern}
use Rattle.wire_cutoff.specs.declared.selections.Selection.{Selection as CodeSelection}
use Rattle.wire_cutoff.specs.Selections.{Selection, selections}
use Rattle.wire_cutoff.specs.Views.{selection_by}
use Rattle.wire_pattern_waits.proofs.Noted.{or_either, or_left, or_right}

-- a selection of a list is one that is judged
pub listed_at : (p : Pattern) (all : List CodeSelection) (i : ℕ) (v : CodeSelection) → map selection_by all ≡ selections p → i < length all → v ≡ get_or all i v
    → slice_get (selections p) i ≡ Some (selection_by v)
listed_at p all i v is lt at =
    ap (λ ss. slice_get ss i) (sym is) ∙ slice_get-map selection_by all i ∙ ap (option_map selection_by) (slice_get_read all (length all) i v refl lt at)

-- what was told before, or is of one instance more
pub told_more : (old own new : Bool) (those : Type 0) → new ≡ (old || own) → (own ≡ true) ↔ those → (new ≡ true) ↔ ((old ≡ true) ⊎ those)
told_more old own new those more told = ((λ h. to (or_either old own (sym more ∙ h))), from)
  where
    to : (old ≡ true) ⊎ (own ≡ true) → (old ≡ true) ⊎ those
    to (inl h) = inl h
    to (inr h) = inr (told.0 h)

    from : (old ≡ true) ⊎ those → new ≡ true
    from (inl h) = more ∙ or_left old own h
    from (inr x) = more ∙ or_right old own (told.1 x)

module _ (p : Pattern) (those : Selection → Type 0) where
  -- it is so of one of the first n selections
  pub record IsBefore (n : ℕ) : Type 0 where
    pub number : ℕ
    pub below : number < n
    pub selection : Selection
    pub is : slice_get (selections p) number ≡ Some selection
    pub holds : those selection

  -- of some selection that is judged
  pub record IsOfSome : Type 0 where
    pub number : ℕ
    pub selection : Selection
    pub is : slice_get (selections p) number ≡ Some selection
    pub holds : those selection

  -- of each of the first n selections
  abbrev pub EachBefore : ℕ → Type 0
  EachBefore n = (i : ℕ) (s : Selection) → i < n → slice_get (selections p) i ≡ Some s → those s

  pub each_more : (n : ℕ) (s : Selection) → slice_get (selections p) n ≡ Some s → EachBefore n → those s → EachBefore (n + 1)
  each_more n s at before here = λ i t lt is. elim (cases_eq i n) [
    | inl e ↦ subst those (same_Some s t (sym at ∙ ap (slice_get (selections p)) (sym e) ∙ is)) here
    | inr ne ↦ before i t (omega (arith, lt, ne)) is
  ]

  pub each_all : (all : List CodeSelection) (n : ℕ) → map selection_by all ≡ selections p → length all ≤ n → EachBefore n
      → (i : ℕ) (s : Selection) → slice_get (selections p) i ≡ Some s → those s
  each_all all n is past before = λ i s at.
      let within = slice_get_within (selections p) i s at in
      let count : length all ≡ length (selections p) = sym (length-map {A = CodeSelection} {B = Selection} all selection_by) ∙ ap length is in
      before i s (omega (arith, within, count, past)) at

  pub none_before : (told : Bool) → told ≡ false → (told ≡ true) ↔ IsBefore 0
  none_before told untold = ((λ h. absurd (true≢false (sym h ∙ untold))), (λ w. absurd (let b = w.below in omega (arith, b))))

  pub one_before : (n : ℕ) (s : Selection) (old new : Bool) → slice_get (selections p) n ≡ Some s → (old ≡ true) ↔ IsBefore n
      → (new ≡ true) ↔ ((old ≡ true) ⊎ those s) → (new ≡ true) ↔ IsBefore (n + 1)
  one_before n s old new at told more = ((λ h. to (more.0 h)), from)
    where
      to : (old ≡ true) ⊎ those s → IsBefore (n + 1)
      to (inl h) =
          let w = told.0 h in
          let b = w.below in
          record { number = w.number; below = omega (arith, b); selection = w.selection; is = w.is; holds = w.holds }
      to (inr x) = record { number = n; below = omega arith; selection = s; is = at; holds = x }

      from : IsBefore (n + 1) → new ≡ true
      from w = more.1 (elim (cases_eq w.number n) [
        | inl e ↦ inr (subst those (same_Some w.selection s (sym w.is ∙ ap (slice_get (selections p)) e ∙ at)) w.holds)
        | inr ne ↦ inl (told.1 (record { number = w.number; below = (let b = w.below in omega (arith, b, ne)); selection = w.selection; is = w.is; holds = w.holds }))
      ])

  pub all_before : (all : List CodeSelection) (n : ℕ) (told : Bool) → map selection_by all ≡ selections p → length all ≤ n → (told ≡ true) ↔ IsBefore n
      → (told ≡ true) ↔ IsOfSome
  all_before all n told is past before = (to, from)
    where
      to : told ≡ true → IsOfSome
      to h = let w = before.0 h in record { number = w.number; selection = w.selection; is = w.is; holds = w.holds }

      from : IsOfSome → told ≡ true
      from w =
          let within = slice_get_within (selections p) w.number w.selection w.is in
          let count : length all ≡ length (selections p) = sym (length-map {A = CodeSelection} {B = Selection} all selection_by) ∙ ap length is in
          before.1 (record { number = w.number; below = omega (arith, within, count, past); selection = w.selection; is = w.is; holds = w.holds })
