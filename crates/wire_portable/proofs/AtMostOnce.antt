-- Plans in which no key is put twice.
use Rattle.std.proofs.Common.{◌≡◌, ◌≢◌, ◌∙◌, ap, sym, refl, ℕ, zero, suc, ◌<◌, true, Option, Some, None, is_some, ◌⊎◌, inl, inr, arith, ne_eqb, leb-true}
use Rattle.std.specs.Prelude.{nat_le}
use Rattle.std.proofs.lemmas.Bool.{cases_eq, true≢false, cond-false, or_cases}
use Rattle.wire_types.specs.declared.Scope.{Scope}
use Rattle.wire_runs.specs.Plan.{Plan, Event, Kind, Put, Get, kind, kind_at, event_count}
use Rattle.wire_runs.specs.Puts.{own_with, own, stored, put_count_with, put_count}
use Rattle.wire_runs.specs.Order.{Stores, Edge, Feeds, Live, may_come}
use Rattle.wire_runs.specs.Races.{IsPutOnce}
use Rattle.wire_plan.specs.Index.{IsFirstPut}
use Rattle.wire_runs.proofs.Due.{live_may, live_source}
use Rattle.wire_runs.proofs.Puts.{first_stores}
use Rattle.wire_plan.proofs.Delivering.{here}
use Rattle.wire_plan.proofs.KeyRows.{count_same, count_other}
use Rattle.wire_plan.proofs.KeyFacts.{never_put_stored}
use Rattle.wire_portable.specs.Judging.{NoRewrites}

module _ (plan : Plan) (p key : ℕ) where
  -- one of p's first n events is its first put of the key
  record HasFirst (n : ℕ) : Type 0 where
    pub i : ℕ
    pub first : IsFirstPut plan (here p i) key
    pub below : i < n

  -- the key was never put, or once
  abbrev IsPutAtMostOnce : ℕ → ℕ → Option ℕ → Type 0
  IsPutAtMostOnce n count put = ((count ≡ 0) × (put ≡ None)) ⊎ (HasFirst n × (count ≡ 1))

  later_first : (n : ℕ) → HasFirst n → HasFirst (suc n)
  later_first n f = let b = f.below in record { i = f.i; first = f.first; below = omega (arith, b) }

  module _ (once : NoRewrites plan) where
    no_second : (n : ℕ) (scope : Scope) → HasFirst n → kind_at plan p n ≡ Some (Put key scope) → ⊥
    no_second n scope f is =
        once (here p f.i) (here p n) (record { key = key; first_scope = f.first.scope; later_scope = scope; first_is = f.first.is; later_is = is; first = f.first.first; same = refl; later = f.below })

    put_more : (n : ℕ) (o : Option Kind) → kind_at plan p n ≡ o → IsPutAtMostOnce n (put_count plan p key n) (own plan p key n) →
        IsPutAtMostOnce (suc n) (put_count_with key (put_count plan p key n) o) (own_with key n (own plan p key n) o)
    put_more n (Some (Put k scope)) e before = elim (cases_eq k key) [
      | inl same ↦ elim before [
        | inl none ↦
            (let is : kind_at plan p n ≡ Some (Put key scope) = e ∙ ap (λ x. Some (Put x scope)) same in
            inr (
              record { i = n; first = record { scope = scope; is = is; first = none.1 }; below = omega arith },
              ap (put_count_with key (put_count plan p key n)) (sym e) ∙ count_same (kind_at plan p) key n scope is ∙ ap suc none.0,
            ))
        | inr f ↦ absurd (no_second n scope f.0 (e ∙ ap (λ x. Some (Put x scope)) same))
      ]
      | inr ne ↦
          (let count = ap (put_count_with key (put_count plan p key n)) (sym e) ∙ count_other (kind_at plan p) key k n scope ne e in
          elim before [
            | inl none ↦ inl (count ∙ none.0, cond-false _ _ _ (ne_eqb k key ne) ∙ none.1)
            | inr f ↦ inr (later_first n f.0, count ∙ f.1)
          ])
    ]
    put_more n _ e before = elim before [ inl none ↦ inl none | inr f ↦ inr (later_first n f.0, f.1) ]

    put_few : (n : ℕ) → IsPutAtMostOnce n (put_count plan p key n) (own plan p key n)
    put_few zero = inl (refl, refl)
    put_few (suc n) = put_more n (kind_at plan p n) refl (put_few n)

    -- a key that isn't put once is never there
    pub never_stored : (put_count plan p key (event_count plan p) ≡ 1 → ⊥) → (n : ℕ) → stored plan p key n ≡ None
    never_stored other n = elim (put_few (event_count plan p)) [
      | inl none ↦ never_put_stored plan p key n none.0
      | inr f ↦ absurd (other f.1)
    ]

    -- a key that is there was put once
    pub stored_once : (n : ℕ) → is_some (stored plan p key n) ≡ true → IsPutOnce plan p key
    stored_once n some = elim (put_few (event_count plan p)) [
      | inl none ↦ absurd (true≢false (sym some ∙ ap is_some (never_put_stored plan p key n none.0)))
      | inr f ↦ f.1
    ]

    few : (n : ℕ) → nat_le 2 (put_count plan p key n) ≡ true → ⊥
    few n t = let le = leb-true 2 (put_count plan p key n) t in elim (put_few n) [ inl none ↦ (let z = none.0 in omega (arith, le, z)) | inr f ↦ (let z = f.1 in omega (arith, le, z)) ]

    -- a live get of another process's key has it stored
    got_stored : (z : Event) → kind plan z ≡ Some (Get p key) → z.proc ≢ p → Live plan z → is_some (stored plan p key (event_count plan p)) ≡ true
    got_stored z is ne l =
        let may = sym (ap (may_come plan z) is) ∙ live_may l in
        elim (or_cases _ _ (sym (cond-false _ _ _ (ne_eqb z.proc p ne)) ∙ may)) [
          | inl some ↦ some
          | inr two ↦ absurd (few (event_count plan p) two)
        ]

    -- by a live commit
    pub got_commit : (z : Event) → kind plan z ≡ Some (Get p key) → z.proc ≢ p → Live plan z → (x : Event) × (x.proc ≡ p) × Stores plan x key × Live plan x
    got_commit z is ne l =
        let some = got_stored z is ne l in
        let f = first_stores plan p key (event_count plan p) some in
        let x : Event = here p f.0 in
        let e : Edge plan x z = Feeds key is (λ same. ne (sym same)) (stored_once (event_count plan p) some) f.2 in
        (x, refl, f.2, live_source l e)
