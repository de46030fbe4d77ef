-- In a settled plan each process puts a key at most once.
use Rattle.std.proofs.Common.{◌≡◌, ℕ, zero, suc, ◌<◌, ◌≤◌, true, ◌==◌, Option, Some, None, is_some, inl, inr, refl, sym, ap, ◌∙◌, subst, arith, eqb-true}
use Rattle.std.proofs.lemmas.Bool.{cond_both, cases_eq, cases_Bool, true≢false}
use Rattle.wire_runs.specs.Plan.{Plan, Kind, Put, Commit, kind_at, Event}
use Rattle.wire_types.specs.declared.Scope.{Scope}
use Rattle.wire_runs.specs.Puts.{own_with, own, stored_with, stored, put_count_with, put_count}
use Rattle.wire_runs.specs.Order.{Stores}
use Rattle.wire_runs.specs.Races.{IsSettled}
use Rattle.wire_runs.proofs.Basics.{stored_own}

record FirstPut (plan : Plan) (p key n : ℕ) : Type 0 where
  pub at : ℕ
  pub scope : Scope
  pub is : kind_at plan p at ≡ Some (Put key scope)
  pub first : own plan p key at ≡ None
  pub below : at < n

own_with_none : (key n : ℕ) (o : Option Kind) → is_some (own_with key n None o) ≡ true → (scope : Scope) × (o ≡ Some (Put key scope))
own_with_none key n (Some (Put k scope)) =
    cond_both (k == key) (Some n) None (λ v. is_some v ≡ true → (c : Scope) × (◌≡◌ {A = Option Kind} (Some (Put k scope)) (Some (Put key c))))
    (λ t h. (scope, ap (λ x. Some (Put x scope)) (eqb-true k key t)))
    (λ f h. absurd (true≢false (sym h)))
own_with_none key n _ = λ h. absurd (true≢false (sym h))

first_put : (plan : Plan) (p key n : ℕ) → is_some (own plan p key n) ≡ true → FirstPut plan p key n
first_put plan p key zero h = absurd (true≢false (sym h))
first_put plan p key (suc n) h = go (own plan p key n) refl (first_put plan p key n)
  where
    go : (o : Option ℕ) → own plan p key n ≡ o → (is_some (own plan p key n) ≡ true → FirstPut plan p key n) → FirstPut plan p key (suc n)
    go (Some v) e ih = let f = ih (ap is_some e) in let b = f.below in record { at = f.at; scope = f.scope; is = f.is; first = f.first; below = omega (arith, b) }
    go None e ih =
        let r = own_with_none key n (kind_at plan p n) (subst (λ v. is_some (own_with key n v (kind_at plan p n)) ≡ true) e h) in
        record { at = n; scope = r.0; is = r.1; first = e; below = omega arith }

abbrev count_of : Option ℕ → ℕ
count_of None = 0
count_of (Some v) = 1

module _ (plan : Plan) (settled : IsSettled plan) where
  no_second : (p key n : ℕ) (scope : Scope) → is_some (own plan p key n) ≡ true → kind_at plan p n ≡ Some (Put key scope) → ⊥
  no_second p key n scope h e =
      let f = first_put plan p key n h in
      let x : Event = record { proc = p; at = f.at } in
      let y : Event = record { proc = p; at = n } in
      settled.no_rewrite x y (record { key = key; first_scope = f.scope; later_scope = scope; first_is = f.is; later_is = e; first = f.first; same = refl; later = f.below })

  own_is_stored_with : (p key n : ℕ) (o : Option Kind) → kind_at plan p n ≡ o → (is_some (stored plan p key n) ≡ true → own plan p key n ≡ stored plan p key n) →
      is_some (stored_with (own plan p key n) (stored plan p key n) o) ≡ true → own_with key n (own plan p key n) o ≡ stored_with (own plan p key n) (stored plan p key n) o
  own_is_stored_with p key n (Some Commit) e ih h = refl
  own_is_stored_with p key n (Some (Put k scope)) e ih h =
      cond_both (k == key) (Some n) (own plan p key n) (λ v. v ≡ stored plan p key n)
      (λ t. absurd (no_second p key n scope (stored_own plan p key n h) (e ∙ ap (λ x. Some (Put x scope)) (eqb-true k key t))))
      (λ f. ih h)
  own_is_stored_with p key n _ e ih h = ih h

  own_is_stored : (p key n : ℕ) → is_some (stored plan p key n) ≡ true → own plan p key n ≡ stored plan p key n
  own_is_stored p key zero h = refl
  own_is_stored p key (suc n) h = own_is_stored_with p key n (kind_at plan p n) refl (own_is_stored p key n) h

  stored_with_same : (p key n : ℕ) (o : Option Kind) → is_some (stored plan p key n) ≡ true → stored_with (own plan p key n) (stored plan p key n) o ≡ stored plan p key n
  stored_with_same p key n (Some Commit) h = own_is_stored p key n h
  stored_with_same p key n _ h = refl

  -- what is stored under a key doesn't change
  pub stored_fixed : (p key n m : ℕ) → n ≤ m → is_some (stored plan p key n) ≡ true → stored plan p key m ≡ stored plan p key n
  stored_fixed p key n zero le h = let e : n ≡ 0 = omega arith in ap (stored plan p key) (sym e)
  stored_fixed p key n (suc m) le h = elim (cases_eq n (suc m)) [
    | inl e ↦ ap (stored plan p key) (sym e)
    | inr ne ↦
        let same = stored_fixed p key n m (omega arith) h in
        stored_with_same p key m (kind_at plan p m) (ap is_some same ∙ h) ∙ same
  ]

  counted_with : (p key n : ℕ) (o : Option Kind) → kind_at plan p n ≡ o → put_count plan p key n ≡ count_of (own plan p key n) →
      put_count_with key (put_count plan p key n) o ≡ count_of (own_with key n (own plan p key n) o)
  counted_with p key n (Some (Put k scope)) e ih = elim (cases_Bool (k == key)) [
    | inl t ↦ go (own plan p key n) refl t
    | inr f ↦ rw f ih
  ]
    where
      go : (v : Option ℕ) → own plan p key n ≡ v → (k == key) ≡ true →
          put_count_with key (put_count plan p key n) (Some (Put k scope)) ≡ count_of (own_with key n (own plan p key n) (Some (Put k scope)))
      go None is t = rw t (ap suc (ih ∙ ap count_of is))
      go (Some v) is t = absurd (no_second p key n scope (ap is_some is) (e ∙ ap (λ x. Some (Put x scope)) (eqb-true k key t)))
  counted_with p key n _ e ih = ih

  counted : (p key n : ℕ) → put_count plan p key n ≡ count_of (own plan p key n)
  counted p key zero = refl
  counted p key (suc n) = counted_with p key n (kind_at plan p n) refl (counted p key n)

  -- a key that is put is put once
  pub put_once : (p key n : ℕ) → is_some (own plan p key n) ≡ true → put_count plan p key n ≡ 1
  put_once p key n h = go (own plan p key n) refl h
    where
      go : (v : Option ℕ) → own plan p key n ≡ v → is_some v ≡ true → put_count plan p key n ≡ 1
      go None is t = absurd (true≢false (sym t))
      go (Some v) is t = counted p key n ∙ ap count_of is

  pub put_at_most_once : (p key n : ℕ) → put_count plan p key n ≤ 1
  put_at_most_once p key n = go (own plan p key n) (counted p key n)
    where
      go : (v : Option ℕ) → put_count plan p key n ≡ count_of v → put_count plan p key n ≤ 1
      go None e = omega (arith, e)
      go (Some v) e = omega (arith, e)

-- where a key is stored, some event has stored it
pub first_stores : (plan : Plan) (p key n : ℕ) → is_some (stored plan p key n) ≡ true → (i : ℕ) × (i < n) × Stores plan (record { proc = p; at = i }) key
first_stores plan p key zero h = absurd (true≢false (sym h))
first_stores plan p key (suc n) h = go (stored plan p key n) refl (first_stores plan p key n)
  where
    go : (o : Option ℕ) → stored plan p key n ≡ o → (is_some (stored plan p key n) ≡ true → (i : ℕ) × (i < n) × Stores plan (record { proc = p; at = i }) key) → (i : ℕ) × (i < suc n)
        × Stores plan (record { proc = p; at = i }) key
    go (Some v) e ih = let r = ih (ap is_some e) in let l = r.1 in (r.0, omega (arith, l), r.2)
    go None e ih = (n, omega arith, record { nothing_before = e; something_after = h })
