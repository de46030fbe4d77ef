-- The event of a process among those of rising processes, as they are bisected.
use Rattle.std.proofs.Common.{◌≡◌, ◌≢◌, ◌∙◌, ap, sym, ℕ, ◌+◌, ◌<◌, ◌≤◌, ◌↔◌, List, Some, false, inl, inr, arith, nat_lt}
use Rattle.std.specs.Prelude.{slice_get, IsTrue}
use Rattle.std.proofs.lemmas.Bool.{cases_eq, cases_lt, true≢false, lt-ltb, ltb-true}
use Rattle.std.proofs.lemmas.Option.{same_Some}
use Rattle.wire_runs.specs.Plan.{Event}
use Rattle.wire_fates.specs.Deliveries.{IsAmong, IsBehindOwn, AreOfRising}

-- the events up to `low` are of lower processes than p, and those from `high` on of higher ones
pub record IsBetween (p : ℕ) (places : List Event) (low high : ℕ) : Type 0 where
  pub below : (k : ℕ) (z : Event) → k < low → slice_get places k ≡ Some z → z.proc < p
  pub above : (k : ℕ) (z : Event) → high ≤ k → slice_get places k ≡ Some z → p < z.proc

module _ (p : ℕ) (places : List Event) (rising : AreOfRising places) where
  pub raised : (low high m : ℕ) (x : Event) → slice_get places m ≡ Some x → x.proc < p → IsBetween p places low high → IsBetween p places (m + 1) high
  raised low high m x at less b = record {
    below = λ k z lt is. elim (cases_eq k m) [
      | inl same ↦ (let one = ap (λ (e : Event). e.proc) (same_Some x z (sym at ∙ ap (slice_get places) (sym same) ∙ is)) in omega (arith, one, less))
      | inr other ↦ (let lower = rising k m z x (omega (arith, lt, other)) is at in omega (arith, lower, less))
    ];
    above = b.above;
  }

  pub lowered : (low high m : ℕ) (x : Event) → slice_get places m ≡ Some x → x.proc ≢ p → p ≤ x.proc → IsBetween p places low high → IsBetween p places low m
  lowered low high m x at ne more b = record {
    below = b.below;
    above = λ k z ge is. elim (cases_eq k m) [
      | inl same ↦ (let one = ap (λ (e : Event). e.proc) (same_Some x z (sym at ∙ ap (slice_get places) (sym same) ∙ is)) in omega (arith, one, ne, more))
      | inr other ↦ (let higher = rising m k x z (omega (arith, ge, other)) at is in omega (arith, higher, more))
    ];
  }

  pub none_between : (low high : ℕ) → high ≤ low → IsBetween p places low high → (x : Event) → IsAmong p x places → ⊥
  none_between low high met b x a =
      let same = a.proc in
      elim (cases_lt a.k low) [
        | inl lt ↦ (let lower = b.below a.k x lt a.is in omega (arith, lower, same))
        | inr ge ↦ (let higher = b.above a.k x (omega (arith, met, ge)) a.is in omega (arith, higher, same))
      ]

  pub one_of_process : (x y : Event) → IsAmong p x places → IsAmong p y places → x ≡ y
  one_of_process x y a b =
      let of_x = a.proc in
      let of_y = b.proc in
      elim (cases_eq a.k b.k) [
        | inl same ↦ same_Some x y (sym a.is ∙ ap (slice_get places) same ∙ b.is)
        | inr other ↦ elim (cases_lt a.k b.k) [
          | inl lt ↦ absurd (let lower = rising a.k b.k x y lt a.is b.is in omega (arith, lower, of_x, of_y))
          | inr ge ↦ absurd (let lower = rising b.k a.k y x (omega (arith, ge, other)) b.is a.is in omega (arith, lower, of_x, of_y))
        ]
      ]

-- whether an event stands behind that of its own process
pub behind_found : (event own : Event) (places : List Event) → AreOfRising places → IsAmong event.proc own places → IsTrue (nat_lt own.at event.at) ↔ IsBehindOwn event places
behind_found event own places rising among = (
  (λ t. record { k = among.k; own = own; is = among.is; same = among.proc; earlier = ltb-true own.at event.at t }),
  (λ b. (
      let one = ap (λ (e : Event). e.at) (one_of_process event.proc places rising own b.own among (record { k = b.k; is = b.is; proc = b.same })) in
      let early = b.earlier in
      lt-ltb own.at event.at (omega (arith, one, early)))),
)

pub behind_none : (event : Event) (places : List Event) → ((x : Event) → IsAmong event.proc x places → ⊥) → IsTrue false ↔ IsBehindOwn event places
behind_none event places none = (
  (λ t. absurd (true≢false (sym t))),
  (λ b. absurd (none b.own (record { k = b.k; is = b.is; proc = b.same }))),
)
