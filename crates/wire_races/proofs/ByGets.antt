-- The races of a get with the gets that bring its key to its node.
use Rattle.std.proofs.Common.{◌≡◌, ◌∙◌, ap, sym, subst, ℕ, suc, ◌-◌, ◌<◌, ◌≤◌, List, length, Some, arith, inl, inr}
use Rattle.std.specs.Prelude.{slice_get}
use Rattle.std.proofs.lemmas.Bool.{cases_eq, cases_lt}
use Rattle.std.proofs.lemmas.Option.{same_Some, slice_get_within}
use Rattle.wire_runs.specs.Plan.{Plan, Event}
use Rattle.wire_runs.specs.Races.{GetDelivers}
use Rattle.wire_plan.specs.Index.{AreGetDeliveries}
use Rattle.wire_findings.specs.declared.finding.Finding.{Finding as Told}
use Rattle.wire_findings.specs.Collected.{AreFound}
use Rattle.wire_races.specs.Adding.{AddsFindings}
use Rattle.wire_races.specs.KeyRaces.{IsRaceOf}
use Rattle.wire_fates.specs.Deliveries.{AreOfOne}
use Rattle.wire_races.specs.GetRaces.{MayRace, AreRacesByGets, AreRacesBelow}
use Rattle.wire_races.proofs.Growing.{adds_none, adds_same, adds_both}
use Rattle.wire_fates.proofs.Gets.{IsUpTo, between, first_live, later_after}

module _ (plan : Plan) (y z : Event) (up : IsUpTo y z) where
  -- and where z may race, y may
  first_may : (get : Event) → MayRace plan z get → MayRace plan y get
  first_may get may = (first_live plan y z up may.0, λ b. may.1 (later_after plan y z up get may.0 b))

module _ (plan : Plan) (get : Event) (p key node : ℕ) (places : List Event) (are : AreGetDeliveries plan p key node places) where
  -- no race so far
  pub no_race : (found : List Told) → AreFound plan found → AddsFindings plan found found (AreRacesBelow plan get p key node places 0)
  no_race found are_found = adds_none plan found (AreRacesBelow plan get p key node places 0) are_found (λ f t. let lt = t.2 in omega (arith, lt))

  -- one more
  pub race_more : (old mid new : List Told) (n : ℕ) (z : Event) → slice_get places n ≡ Some z → MayRace plan z get → AddsFindings plan old mid (AreRacesBelow plan get p key node places n) →
      AddsFindings plan mid new (IsRaceOf z get p key) → AddsFindings plan old new (AreRacesBelow plan get p key node places (suc n))
  race_more old mid new n z is may first second =
      adds_both plan old mid new (AreRacesBelow plan get p key node places n) (IsRaceOf z get p key) (AreRacesBelow plan get p key node places (suc n))
      (λ f t. let lt = t.2 in (t.0, t.1, omega (arith, lt), t.3, t.4))
      (λ f t. (n, z, omega arith, is, record { delivers = are.only n z is; may = may; is = t }))
      (λ f t. elim (cases_eq t.0 n) [
        | inl e ↦ inr (subst (λ x. IsRaceOf x get p key f) (same_Some _ _ (sym t.3 ∙ ap (slice_get places) e ∙ is)) t.4.is)
        | inr ne ↦ inl (let lt = t.2 in (t.0, t.1, omega (arith, lt, ne), t.3, t.4))
      ])
      first second

  -- where the first get of a process can't race, none of them can
  pub race_skip : (old new : List Told) (n m : ℕ) (y : Event) → n < m → slice_get places n ≡ Some y → (MayRace plan y get → ⊥) → AreOfOne places n (m - 1) →
      AddsFindings plan old new (AreRacesBelow plan get p key node places n) → AddsFindings plan old new (AreRacesBelow plan get p key node places m)
  race_skip old new n m y more is never one h =
      adds_same plan old new (AreRacesBelow plan get p key node places n) (AreRacesBelow plan get p key node places m)
      (λ f t. let lt = t.2 in (t.0, t.1, omega (arith, lt, more), t.3, t.4))
      (λ f t. elim (cases_lt t.0 n) [
        | inl low ↦ (t.0, t.1, low, t.3, t.4)
        | inr high ↦ absurd (
            let b = between (GetDelivers plan p key node) places are n t.0 m t.1 high t.2 one t.3 in
            let same : b.0 ≡ y = same_Some _ _ (sym b.1 ∙ is) in
            never (subst (λ x. MayRace plan x get) same (first_may plan b.0 t.1 b.2 get t.4.may)))
      ])
      h

  pub races_done : (old new : List Told) (n : ℕ) → length places ≤ n → AddsFindings plan old new (AreRacesBelow plan get p key node places n) → AddsFindings plan old new (AreRacesByGets plan get p key node)
  races_done old new n end h =
      adds_same plan old new (AreRacesBelow plan get p key node places n) (AreRacesByGets plan get p key node)
      (λ f t. (t.1, t.4))
      (λ f t.
      let at = are.all t.0 t.1.delivers in
      let within = slice_get_within places at.0 t.0 at.1 in
      (at.0, t.0, omega (arith, within, end), at.1, t.1))
      h
