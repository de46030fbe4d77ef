-- The last arrival of a process before one of its events at a fence that brings data.
use Rattle.std.proofs.Common.{◌≡◌, ◌≢◌, ◌∙◌, ap, sym, ℕ, ◌+◌, ◌<◌, ◌⊎◌, List, Some, None, arith, inl, inr, nat_lt}
use Rattle.std.specs.Prelude.{slice_get}
use Rattle.std.proofs.lemmas.Bool.{cases_eq, lt-ltb, ltb-true}
use Rattle.std.proofs.lemmas.Option.{same_Some}
use Rattle.wire_runs.specs.Plan.{Plan, Event}
use Rattle.wire_runs.specs.EventLists.{IsLower, AreAll}
use Rattle.wire_plan.specs.Index.{BringsData, BringsDataBefore, IsLastBringingArrival}
use Rattle.wire_plan.specs.Bringing.{is_below}
use Rattle.wire_plan.proofs.FirstBringing.{below_lower, lower_below}

module _ (plan : Plan) (y : Event) (xs : List Event) (are : AreAll (BringsData plan) xs) (n : ℕ)
    (exactly : (k : ℕ) (x : Event) → slice_get xs k ≡ Some x → is_below x y ≡ nat_lt k n) where
  -- each of them stands below the place
  stands_below : (z : Event) → BringsDataBefore plan y z → (k : ℕ) × (k < n) × (slice_get xs k ≡ Some z)
  stands_below z b =
      let found = are.all z b.brings in
      (found.0, ltb-true found.0 n (sym (exactly found.0 z found.1) ∙ lower_below z y (inr (b.same, b.earlier))), found.1)

  -- so there is none at the first place
  pub none_first : n ≡ 0 → IsLastBringingArrival plan y None
  none_first zero z b = let k = stands_below z b in let lt = k.1 in omega (arith, zero, lt)

  -- one that stands there is not above the one in front of the place
  last_stands : (k : ℕ) (x z : Event) → k + 1 ≡ n → slice_get xs k ≡ Some x → BringsDataBefore plan y z → (z ≡ x) ⊎ IsLower z x
  last_stands k x z last is b =
      let found = stands_below z b in
      let lt = found.1 in
      elim (cases_eq found.0 k) [
        | inl same ↦ inl (same_Some z x (sym found.2 ∙ ap (slice_get xs) same ∙ is))
        | inr other ↦ inr (are.rising found.0 k z x (omega (arith, lt, last, other)) found.2 is)
      ]

  -- that one is the last, where it is of the process
  pub last_found : (k : ℕ) (x : Event) → k + 1 ≡ n → slice_get xs k ≡ Some x → x.proc ≡ y.proc → IsLastBringingArrival plan y (Some x)
  last_found k x last is same = (
    record {
      brings = are.only k x is;
      same = same;
      earlier = elim (below_lower x y (exactly k x is ∙ lt-ltb k n (omega (arith, last)))) [
        | inl low ↦ absurd (omega (arith, low, same))
        | inr low ↦ low.1
      ];
    },
    λ z b. elim (last_stands k x z last is b) [
      | inl one ↦ (let at = ap (λ (e : Event). e.at) one in omega (arith, at))
      | inr (inl low) ↦ (let of = b.same in absurd (omega (arith, low, of, same)))
      | inr (inr low) ↦ (let earlier = low.1 in omega (arith, earlier))
    ],
  )

  -- and where it is of another process, there is none
  pub none_of_other : (k : ℕ) (x : Event) → k + 1 ≡ n → slice_get xs k ≡ Some x → x.proc ≢ y.proc → IsLastBringingArrival plan y None
  none_of_other k x last is other z b =
      let below = below_lower x y (exactly k x is ∙ lt-ltb k n (omega (arith, last))) in
      elim (last_stands k x z last is b) [
        | inl one ↦ other (sym (ap (λ (e : Event). e.proc) one) ∙ b.same)
        | inr (inl low) ↦ elim below [
          | inl lower ↦ (let of = b.same in omega (arith, low, lower, of))
          | inr it ↦ other it.0
        ]
        | inr (inr low) ↦ other (sym low.0 ∙ b.same)
      ]
