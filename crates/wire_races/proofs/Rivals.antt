-- With which higher calls a call on a name may race.
use Rattle.std.proofs.Common.{◌≡◌, ◌∙◌, inl, inr, ℕ, suc, ◌+◌, ◌<◌, ◌≤◌, List, [], ◌∷◌, ◌++◌, length, true, Some, sym, ap, subst, arith}
use Rattle.std.specs.Prelude.{slice_get, ◌≢◌}
use Rattle.std.proofs.lemmas.Bool.{cases_eq, cases_lt}
use Rattle.std.proofs.lemmas.Option.{same_Some, slice_get_within}
use Rattle.wire_runs.specs.Plan.{Plan, Event, kind}
use Rattle.wire_runs.specs.Names.{writes_name}
use Rattle.wire_runs.specs.EventLists.{AreAll}
use Rattle.wire_runs.specs.Fate.{IsIn}
use Rattle.wire_plan.specs.Index.{is_plain_call, AreNameCalls}
use Rattle.wire_runs.proofs.EventLists.{all_same, all_and_one}
use Rattle.wire_runs.proofs.Members.{in_index, index_in, in_parts}
use Rattle.wire_runs.proofs.Lists.{slice_get-append_kept}
use Rattle.wire_races.specs.NameRaces.{AreCallsOn, AreRivals, AreHigher, HasRivals, AreWriters, IsAbove}
use Rattle.wire_fates.specs.Cuts.{IsCut}
use Rattle.wire_races.proofs.Lists.{get_right, other_calls}
use Rattle.wire_races.proofs.NameRaces.{plain_calls, caller_in, race_lower, one_changes}

-- calls in two parts, where the first ones are of processes up to p
pub cut_above : (p : ℕ) (calls front rest : List Event) (n : ℕ) → calls ≡ front ++ rest → n ≡ length front → IsCut (λ z. z.proc ≤ p) calls n → IsAbove p calls rest
cut_above p calls front rest n parts size cut = record {
  front = front;
  parts = parts;
  lower = λ k z e. cut.below k z (let lt = slice_get_within front k z e in omega (arith, lt, size)) (subst (λ l. slice_get l k ≡ Some z) (sym parts) (slice_get-append_kept front rest k z e));
  higher = λ k z e. (
      let never = cut.above (length front + k) z (omega (arith, size)) (subst (λ l. slice_get l (length front + k) ≡ Some z) (sym parts) (get_right front rest k z e)) in
      over z.proc p never);
}
  where
    over : (m p : ℕ) → (m ≤ p → ⊥) → p < m
    over m p never = elim (cases_lt p m) [ inl lt ↦ lt | inr le ↦ absurd (never le) ]

module _ (plan : Plan) (name : ℕ) (x : Event) where
  -- what is above the process of x is in the rest
  still_there : (calls rest : List Event) → IsAbove x.proc calls rest → (y : Event) → x.proc < y.proc → IsIn y calls → IsIn y rest
  still_there calls rest above y lt i = elim (in_parts above.front rest y (subst (IsIn y) above.parts i)) [
    | inl f ↦ (let w = in_index above.front y f in let le = above.lower w.0 y w.1 in absurd (omega (arith, lt, le)))
    | inr r ↦ r
  ]

  above_calls : (calls rest : List Event) → IsAbove x.proc calls rest → AreCallsOn plan name calls → AreCallsOn plan name rest
  above_calls calls rest above are = other_calls plan name above.front rest (subst (λ l. AreCallsOn plan name l) above.parts are)

  in_whole : (calls rest : List Event) (above : IsAbove x.proc calls rest) (k : ℕ) (z : Event) → slice_get rest k ≡ Some z → slice_get calls (length above.front + k) ≡ Some z
  in_whole calls rest above k z e = subst (λ l. slice_get l (length above.front + k) ≡ Some z) (sym above.parts) (get_right above.front rest k z e)

  above_others : (calls rest : List Event) → IsAbove x.proc calls rest → (k : ℕ) (z : Event) → slice_get rest k ≡ Some z → x.proc ≢ z.proc
  above_others calls rest above k z e same = let lt = above.higher k z e in omega (arith, lt, same)

  pub all_calls : (places : List Event) → AreNameCalls plan name places → AreCallsOn plan name places
  all_calls places are = record { each = λ k z e. plain_calls plan name z (kind plan z) (are.only k z e); rising = are.rising }

  pub all_writers : (places : List Event) → AreWriters plan name places → AreCallsOn plan name places
  all_writers places are = record { each = λ k z e. plain_calls plan name z (kind plan z) (are.only k z e).0; rising = are.rising }

  -- where x may change the name
  pub changing : (calls rest : List Event) → AreNameCalls plan name calls → writes_name plan name x (kind plan x) ≡ true → IsAbove x.proc calls rest → AreRivals plan name x rest
  changing calls rest are writes above = record { calls_on = above_calls calls rest above (all_calls calls are); others = above_others calls rest above; change = λ k z e. inl writes }

  pub higher_calls : (calls rest : List Event) → AreNameCalls plan name calls → IsAbove x.proc calls rest → AreHigher plan name x rest
  higher_calls calls rest are above k z e = (above.higher k z e, are.only (length above.front + k) z (in_whole calls rest above k z e))

  pub all_changing : (calls rest : List Event) → AreNameCalls plan name calls → IsAbove x.proc calls rest → HasRivals plan name x rest
  all_changing calls rest are above y plain found = still_there calls rest above y (race_lower plan x y name found) (caller_in plan name calls are y plain)

  -- where it can't
  pub reading : (writers rest : List Event) → AreWriters plan name writers → IsAbove x.proc writers rest → AreRivals plan name x rest
  reading writers rest are above = record {
    calls_on = above_calls writers rest above (all_writers writers are);
    others = above_others writers rest above;
    change = λ k z e. inr (are.only (length above.front + k) z (in_whole writers rest above k z e)).1;
  }

  pub higher_writers : (writers rest : List Event) → AreWriters plan name writers → IsAbove x.proc writers rest → AreHigher plan name x rest
  higher_writers writers rest are above k z e = (above.higher k z e, (are.only (length above.front + k) z (in_whole writers rest above k z e)).0)

  pub all_reading : (writers rest : List Event) → AreWriters plan name writers → (writes_name plan name x (kind plan x) ≡ true → ⊥) → IsAbove x.proc writers rest → HasRivals plan name x rest
  all_reading writers rest are never above y plain found =
      let w = are.all y (plain, one_changes plan x y name found never) in
      still_there writers rest above y (race_lower plan x y name found) (index_in writers y w.0 w.1)

-- a call that may change the name, one of the first k calls on it
abbrev pub IsWriterBelow : Plan → ℕ → List Event → ℕ → Event → Type 0
IsWriterBelow plan name calls k z = (j : ℕ) × (j < k) × (slice_get calls j ≡ Some z) × (writes_name plan name z (kind plan z) ≡ true)

module _ (plan : Plan) (name : ℕ) (calls : List Event) (are : AreNameCalls plan name calls) where
  pub one_writer : (k m : ℕ) (writers : List Event) (x : Event) → m ≡ suc k → slice_get calls k ≡ Some x → writes_name plan name x (kind plan x) ≡ true →
      AreAll (IsWriterBelow plan name calls k) writers → AreAll (IsWriterBelow plan name calls m) (writers ++ x ∷ [])
  one_writer k m writers x one at writes =
      all_and_one (IsWriterBelow plan name calls k) (IsWriterBelow plan name calls m) writers x
      (λ z w. are.rising w.0 k z x w.1 w.2 at)
      (λ z w. let lt = w.1 in (w.0, omega (arith, lt, one), w.2, w.3))
      (k, omega (arith, one), at, writes)
      (λ z w. elim (cases_eq w.0 k) [
        | inl same ↦ inr (same_Some x z (sym at ∙ ap (slice_get calls) (sym same) ∙ w.2))
        | inr other ↦ inl (let lt = w.1 in (w.0, omega (arith, lt, one, other), w.2, w.3))
      ])

  pub no_writer : (k m : ℕ) (writers : List Event) (x : Event) → m ≡ suc k → slice_get calls k ≡ Some x → (writes_name plan name x (kind plan x) ≡ true → ⊥) →
      AreAll (IsWriterBelow plan name calls k) writers → AreAll (IsWriterBelow plan name calls m) writers
  no_writer k m writers x one at never =
      all_same (IsWriterBelow plan name calls k) (IsWriterBelow plan name calls m) writers
      (λ z w. let lt = w.1 in (w.0, omega (arith, lt, one), w.2, w.3))
      (λ z w. elim (cases_eq w.0 k) [
        | inl same ↦ (let is = same_Some z x (sym w.2 ∙ ap (slice_get calls) same ∙ at) in absurd (never (subst (λ (v : Event). writes_name plan name v (kind plan v) ≡ true) is w.3)))
        | inr other ↦ (let lt = w.1 in (w.0, omega (arith, lt, one, other), w.2, w.3))
      ])

  pub every_writer : (k : ℕ) (writers : List Event) → length calls ≤ k → AreAll (IsWriterBelow plan name calls k) writers → AreWriters plan name writers
  every_writer k writers end =
      all_same (IsWriterBelow plan name calls k) (λ z. (is_plain_call name (kind plan z) ≡ true) × (writes_name plan name z (kind plan z) ≡ true)) writers
      (λ z w. (are.only w.0 z w.2, w.3))
      (λ z w. let at = are.all z w.0 in let lt = slice_get_within calls at.0 z at.1 in (at.0, omega (arith, lt, end), at.1, w.1))
