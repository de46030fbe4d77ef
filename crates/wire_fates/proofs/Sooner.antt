-- A process's arrivals at fences: where a later one is live, so are all arrivals at an earlier one's fence, and they are before it.
use Rattle.std.proofs.Common.{◌≡◌, sym, refl, subst, ℕ, suc, ◌<◌, List, Some, arith, inl, inr}
use Rattle.std.proofs.lemmas.Bool.{cases_eq}
use Rattle.wire_runs.specs.Plan.{Plan, Event, Leave, kind}
use Rattle.wire_runs.specs.Order.{IsArrival, Live, Edge, Meets, Before, edge}
use Rattle.wire_runs.proofs.Histories.{before_live, joined, same_process}
use Rattle.wire_runs.proofs.Due.{live_source}
use Rattle.wire_fates.proofs.First.{leave_next}

abbrev at_place : ℕ → ℕ → Event
at_place p at = record { proc = p; at = at }

module _ (plan : Plan) (p a b : ℕ) (members : List ℕ) (j : ℕ) (arrival : IsArrival plan members j (at_place p a)) (lt : a < b) (later : Live plan (at_place p b)) where
  abbrev end : Event
  end = at_place p (suc a)

  end_is : kind plan end ≡ Some (Leave members)
  end_is = leave_next plan p a members arrival.collect arrival.is

  -- the end of the earlier fence is live
  end_live : Live plan end
  end_live = elim (cases_eq (suc a) b) [
    | inl same ↦ subst (λ n. Live plan (at_place p n)) (sym same) later
    | inr other ↦ before_live (same_process plan end (at_place p b) later refl (omega (arith, lt, other)))
  ]

  meets_end : (z : Event) → IsArrival plan members j z → Edge plan z end
  meets_end z h = Meets members end_is (subst (λ i. IsArrival plan members i z) (sym arrival.nth) h)

  pub sooner_live : (z : Event) → IsArrival plan members j z → Live plan z
  sooner_live z h = live_source end_live (meets_end z h)

  before_end : (z : Event) → IsArrival plan members j z → Before plan z end
  before_end z h = edge (sooner_live z h) (meets_end z h) end_live

  pub sooner_before : (z : Event) → IsArrival plan members j z → Before plan z (at_place p b)
  sooner_before z h = elim (cases_eq (suc a) b) [
    | inl same ↦ subst (λ n. Before plan z (at_place p n)) same (before_end z h)
    | inr other ↦ joined (before_end z h) (same_process plan end (at_place p b) later refl (omega (arith, lt, other)))
  ]
