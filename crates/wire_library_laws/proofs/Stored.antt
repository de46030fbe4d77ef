-- What is stored under a key that is put once.
use Rattle.std.proofs.Common.{◌≡◌, ℕ, zero, suc, ◌<◌, ◌≤◌, true, ◌==◌, Option, Some, None, is_some, inl, inr, refl, sym, ap, ◌∙◌, subst, arith, eqb-true}
use Rattle.std.proofs.lemmas.Bool.{cond_both, cases_eq, true≢false}
use Rattle.wire_runs.specs.Plan.{Plan, Kind, Put, Commit, kind_at, Event}
use Rattle.wire_types.specs.declared.Scope.{Scope}
use Rattle.wire_runs.specs.Puts.{own_with, own, stored_with, stored}
use Rattle.wire_runs.specs.Races.{IsRewrite}
use Rattle.wire_runs.proofs.Basics.{stored_own, stored_stays}

record FirstPut (plan : Plan) (p key n : ℕ) : Type 0 where
  pub at : ℕ
  pub scope : Scope
  pub is : kind_at plan p at ≡ Some (Put key scope)
  pub first : own plan p key at ≡ None
  pub below : at < n

own_with_none : (key n : ℕ) (o : Option Kind) → is_some (own_with key n None o) ≡ true → (scope : Scope) × (o ≡ Some (Put key scope))
own_with_none key n (Some (Put k scope)) =
    cond_both (k == key) (Some n) None (λ v. is_some v ≡ true → (c : Scope) × (◌≡◌ {A = Option Kind} (Some (Put k scope)) (Some (Put key c))))
    (λ t h. (scope, ap (λ x. Some (Put x scope)) (eqb-true k key t)))
    (λ f h. absurd (true≢false (sym h)))
own_with_none key n _ = λ h. absurd (true≢false (sym h))

first_put : (plan : Plan) (p key n : ℕ) → is_some (own plan p key n) ≡ true → FirstPut plan p key n
first_put plan p key zero h = absurd (true≢false (sym h))
first_put plan p key (suc n) h = go (own plan p key n) refl (first_put plan p key n)
  where
    go : (o : Option ℕ) → own plan p key n ≡ o → (is_some (own plan p key n) ≡ true → FirstPut plan p key n) → FirstPut plan p key (suc n)
    go (Some v) e ih = let f = ih (ap is_some e) in let b = f.below in record { at = f.at; scope = f.scope; is = f.is; first = f.first; below = omega (arith, b) }
    go None e ih =
        let r = own_with_none key n (kind_at plan p n) (subst (λ v. is_some (own_with key n v (kind_at plan p n)) ≡ true) e h) in
        record { at = n; scope = r.0; is = r.1; first = e; below = omega arith }

module _ (plan : Plan) (no_rewrite : (x y : Event) → IsRewrite plan x y → ⊥) where
  no_second : (p key n : ℕ) (scope : Scope) → is_some (own plan p key n) ≡ true → kind_at plan p n ≡ Some (Put key scope) → ⊥
  no_second p key n scope h e =
      let f = first_put plan p key n h in
      let x : Event = record { proc = p; at = f.at } in
      let y : Event = record { proc = p; at = n } in
      no_rewrite x y (record { key = key; first_scope = f.scope; later_scope = scope; first_is = f.is; later_is = e; first = f.first; same = refl; later = f.below })

  own_is_stored_with : (p key n : ℕ) (o : Option Kind) → kind_at plan p n ≡ o → (is_some (stored plan p key n) ≡ true → own plan p key n ≡ stored plan p key n) →
      is_some (stored_with (own plan p key n) (stored plan p key n) o) ≡ true → own_with key n (own plan p key n) o ≡ stored_with (own plan p key n) (stored plan p key n) o
  own_is_stored_with p key n (Some Commit) e ih h = refl
  own_is_stored_with p key n (Some (Put k scope)) e ih h =
      cond_both (k == key) (Some n) (own plan p key n) (λ v. v ≡ stored plan p key n)
      (λ t. absurd (no_second p key n scope (stored_own plan p key n h) (e ∙ ap (λ x. Some (Put x scope)) (eqb-true k key t))))
      (λ f. ih h)
  own_is_stored_with p key n _ e ih h = ih h

  own_is_stored : (p key n : ℕ) → is_some (stored plan p key n) ≡ true → own plan p key n ≡ stored plan p key n
  own_is_stored p key zero h = refl
  own_is_stored p key (suc n) h = own_is_stored_with p key n (kind_at plan p n) refl (own_is_stored p key n) h

  stored_with_same : (p key n : ℕ) (o : Option Kind) → is_some (stored plan p key n) ≡ true → stored_with (own plan p key n) (stored plan p key n) o ≡ stored plan p key n
  stored_with_same p key n (Some Commit) h = own_is_stored p key n h
  stored_with_same p key n _ h = refl

  -- what is stored under a key doesn't change
  pub stored_fixed : (p key n m : ℕ) → n ≤ m → is_some (stored plan p key n) ≡ true → stored plan p key m ≡ stored plan p key n
  stored_fixed p key n zero le h = let e : n ≡ 0 = omega arith in ap (stored plan p key) (sym e)
  stored_fixed p key n (suc m) le h = elim (cases_eq n (suc m)) [
    | inl e ↦ ap (stored plan p key) (sym e)
    | inr ne ↦
        let same = stored_fixed p key n m (omega arith) h in
        stored_with_same p key m (kind_at plan p m) (ap is_some same ∙ h) ∙ same
  ]

-- a key that isn't there wasn't there before
pub missing_before : (plan : Plan) (p key m n : ℕ) → m ≤ n → stored plan p key n ≡ None → stored plan p key m ≡ None
missing_before plan p key m n le none = go (stored plan p key m) refl
  where
    go : (o : Option ℕ) → stored plan p key m ≡ o → stored plan p key m ≡ None
    go None e = e
    go (Some v) e = absurd (true≢false (sym (stored_stays plan p key m n le (ap is_some e)) ∙ ap is_some none))

-- where a key is there, some event has happened
pub stored_past_start : (plan : Plan) (p key n : ℕ) → is_some (stored plan p key n) ≡ true → (m : ℕ) × (n ≡ suc m)
stored_past_start plan p key zero h = absurd (true≢false (sym h))
stored_past_start plan p key (suc m) h = (m, refl)
