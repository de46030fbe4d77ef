-- The deliveries of a key to a node, and a get.
use Rattle.std.proofs.Common.{◌≡◌, ap, sym, refl, subst, ℕ, ◌<◌, ◌≤◌, Option, Some, None, arith, ◌⊎◌, inl, inr}
use Rattle.std.specs.Prelude.{IfSome, option_map}
use Rattle.std.proofs.lemmas.Bool.{cases_lt, cases_eq}
use Rattle.wire_runs.specs.Plan.{Plan, Event, event_count}
use Rattle.wire_types.specs.declared.Proc.{Proc}
use Rattle.wire_types.specs.declared.place.Event.{Event as CodeEvent}
use Rattle.wire_runs.specs.Order.{Live, Before}
use Rattle.wire_runs.specs.Races.{Delivery, ByFence, ByGet, IsOf, Delivers, ComesSurely}
use Rattle.wire_plan.specs.Index.{IsDelivering, IsNextDelivery}
use Rattle.wire_plan.proofs.Delivering.{here}
use Rattle.wire_runs.proofs.Basics.{event_within}
use Rattle.wire_fates.specs.Deliveries.{IsSureByGet}
use Rattle.wire_fates.specs.Deliveries.{IsSure, IsSureByFence, IsNextArrival}
use Rattle.wire_runs.proofs.Histories.{before_live, joined}
use Rattle.wire_fates.proofs.Arrivals.{arrival_of}
use Rattle.wire_fates.proofs.Sooner.{sooner_live, sooner_before}

pub delivering_within : (plan : Plan) (p key node at : ℕ) → IsDelivering plan p key node at → at < event_count plan p
delivering_within plan p key node at d = event_within plan p at _ d.arrival.is

-- the next delivery, told by its event
pub next_from : (plan : Plan) (owner : Proc) (key node from : ℕ) (found : Option CodeEvent) → IfSome found (λ e. e.proc ≡ owner) →
    IsNextDelivery plan owner.number key node from (option_map (λ e. e.at) found) → IsNextArrival plan owner.number key node from found
next_from plan owner key node from None owned next = next
next_from plan owner key node from (Some e) owned next = record {
  proc = ap (λ q. q.number) owned;
  after = next.0;
  there = delivering_within plan owner.number key node e.at next.1;
  delivers = next.1;
  others = next.2;
}

module _ (plan : Plan) (get : Event) (p key node : ℕ) where
  -- a sure delivery, by the owner's arrival at its fence
  pub surely : (at : ℕ) → IsDelivering plan p key node at → IsSure plan get (here p at) → ComesSurely plan p key node get
  surely at d s = record {
    delivery = ByFence d.members d.j;
    delivers = record {
      brings_it = d.brings;
      all_live = λ z a. s.all_live z (arrival_of plan (here p at) z d.members s.fence.members d.j s.fence.j d.arrival s.fence.arrival a);
    };
    all_before = λ z a. s.all_before z (arrival_of plan (here p at) z d.members s.fence.members d.j s.fence.j d.arrival s.fence.arrival a);
  }

  pub fence_sure : IsSureByFence plan p key node get → ComesSurely plan p key node get
  fence_sure s = surely s.0 s.1 s.2

  -- a sure delivery by a get
  pub get_sure : IsSureByGet plan p key node get → ComesSurely plan p key node get
  get_sure s = record {
    delivery = ByGet s.0;
    delivers = record { brings_it = s.1; all_live = λ z e. subst (Live plan) (sym e) (before_live s.2) };
    all_before = λ z e. subst (λ x. Before plan x get) (sym e) s.2;
  }

  -- there is no other
  pub sure_either : ComesSurely plan p key node get → IsSureByFence plan p key node get ⊎ IsSureByGet plan p key node get
  sure_either s = go s.delivery s.delivers s.all_before
    where
      go : (d : Delivery) → Delivers plan p key node d → ((z : Event) → IsOf plan d z → Before plan z get) → IsSureByFence plan p key node get ⊎ IsSureByGet plan p key node get
      go (ByFence members j) d before = inl (
        d.brings_it.away.at,
        record { members = members; j = j; arrival = d.brings_it.away.arrival; brings = d.brings_it },
        record { fence = record { members = members; j = j; arrival = d.brings_it.away.arrival }; all_live = d.all_live; all_before = before },
      )
      go (ByGet other) d before = inr (other, d.brings_it, before other refl)

  -- where a delivery is sure, an earlier one is
  sure_sooner : (a b : ℕ) → a < b → IsDelivering plan p key node a → IsSure plan get (here p b) → IsSure plan get (here p a)
  sure_sooner a b lt d s =
      let later = s.all_live (here p b) s.fence.arrival in record {
        fence = record { members = d.members; j = d.j; arrival = d.arrival };
        all_live = λ z h. sooner_live plan p a b d.members d.j d.arrival lt later z h;
        all_before = λ z h. joined (sooner_before plan p a b d.members d.j d.arrival lt later z h) (s.all_before (here p b) s.fence.arrival);
      }

  -- so the first one is
  pub first_sure : (at : ℕ) → IsDelivering plan p key node at → ((k : ℕ) → 0 ≤ k → k < at → IsDelivering plan p key node k → ⊥) → IsSureByFence plan p key node get → IsSure plan get (here p at)
  first_sure at d others w =
      elim (cases_lt w.0 at) [
        | inl lt ↦ absurd (others w.0 (omega arith) lt w.1)
        | inr ge ↦ elim (cases_eq w.0 at) [
          | inl same ↦ subst (λ n. IsSure plan get (here p n)) same w.2
          | inr other ↦ sure_sooner at w.0 (omega (arith, ge, other)) d w.2
        ]
      ]

  -- none at all
  pub never_sure : ((k : ℕ) → 0 ≤ k → IsDelivering plan p key node k → ⊥) → IsSureByFence plan p key node get → ⊥
  never_sure none w = none w.0 (omega arith) w.1
