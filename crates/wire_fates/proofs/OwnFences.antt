-- A fence that brings data and that a get's own process has left before the get.
use Rattle.std.proofs.Common.{◌≡◌, ◌∙◌, ap, sym, subst, ℕ, ◌≤◌, ◌==◌, true, List, [], ◌∷◌, arith, inl, inr, eq-eqb, eqb-true}
use Rattle.std.proofs.lemmas.Bool.{true≢false, or_cases, or_left, or_right}
use Rattle.wire_runs.specs.Plan.{Plan, Event, node_of}
use Rattle.wire_runs.specs.Fences.{is_member, has_node}
use Rattle.wire_runs.specs.Order.{IsArrival, Live}
use Rattle.wire_plan.specs.Index.{AreArrivals, BringsDataBefore, IsSent}
use Rattle.wire_fates.specs.Deliveries.{Arrives, IsAmong, IsSureByFence, IsSureByOwnFence}
use Rattle.wire_fates.proofs.Arrivals.{arrival_of, arrives_once}
use Rattle.wire_fates.proofs.Sooner.{sooner_live, sooner_before}

-- the node of a member is one of the members' nodes
pub member_there : (plan : Plan) (members : List ℕ) (m : ℕ) → is_member members m ≡ true → has_node plan members (node_of plan m) ≡ true
member_there plan [] m i = absurd (true≢false (sym i))
member_there plan (x ∷ xs) m i = elim (or_cases (x == m) _ i) [
  | inl e ↦ or_left _ _ (eq-eqb _ _ (ap (node_of plan) (eqb-true x m e)))
  | inr r ↦ or_right (node_of plan x == node_of plan m) _ (member_there plan xs m r)
]

pub arrives_there : (plan : Plan) (get own : Event) → BringsDataBefore plan get own → Arrives plan own
arrives_there plan get own b = record { members = b.brings.members; j = b.brings.j; arrival = b.brings.arrival }

-- what an owner has sent before its arrival there is at the get's node before the get
pub own_fence_sure : (plan : Plan) (get own arrival : Event) (p key : ℕ) (places : List Event) → BringsDataBefore plan get own → Live plan get →
    ((members : List ℕ) (j : ℕ) → IsArrival plan members j own → AreArrivals plan members j places) → IsAmong p arrival places → IsSent plan p key arrival.at →
    IsSureByFence plan p key (node_of plan get.proc) get
own_fence_sure plan get own arrival p key places b alive those among sent =
    let members = b.brings.members in
    let j = b.brings.j in
    let are = those members j b.brings.arrival in
    let of_get : IsArrival plan members j (record { proc = get.proc; at = own.at }) =
    subst (λ q. IsArrival plan members j (record { proc = q; at = own.at })) b.same b.brings.arrival in
    let of_owner : IsArrival plan members j (record { proc = p; at = arrival.at }) =
    subst (λ q. IsArrival plan members j (record { proc = q; at = arrival.at })) among.proc (are.only among.k arrival among.is) in (
      arrival.at,
      record {
        members = members;
        j = j;
        arrival = of_owner;
        brings = record {
          away = record {
            full = b.brings.full;
            collecting = b.brings.collecting;
            member = of_owner.member;
            at = arrival.at;
            put = sent.put;
            arrival = of_owner;
            committed = sent.committed;
            admitted = sent.admitted;
          };
          reaches = member_there plan members get.proc of_get.member;
        };
      },
      record {
        fence = record { members = members; j = j; arrival = of_owner };
        all_live = λ z h. sooner_live plan get.proc own.at get.at members j of_get b.earlier alive z h;
        all_before = λ z h. sooner_before plan get.proc own.at get.at members j of_get b.earlier alive z h;
      },
    )

-- the last fence with data, with all arrivals at it
module _ (plan : Plan) (get own : Event) (b : BringsDataBefore plan get own) (last : (z : Event) → BringsDataBefore plan get z → z.at ≤ own.at)
    (p key node : ℕ) (places : List Event) (those : (members : List ℕ) (j : ℕ) → IsArrival plan members j own → AreArrivals plan members j places) where
  are : AreArrivals plan b.brings.members b.brings.j places
  are = those b.brings.members b.brings.j b.brings.arrival

  same_own : (s : IsSureByOwnFence plan p key node get) → s.own ≡ own
  same_own s =
      let low = last s.own s.brings in
      let high = s.last own b in
      let at : s.own.at ≡ own.at = omega (arith, low, high) in
      let proc = s.brings.same ∙ sym b.same in
      λ i. record { proc = proc i; at = at i }

  -- the owner's arrival is one of them
  its_arrival : (s : IsSureByOwnFence plan p key node get) → IsArrival plan b.brings.members b.brings.j s.arrival
  its_arrival s =
      arrival_of plan own s.arrival s.brings.brings.members b.brings.members s.brings.brings.j b.brings.j
      (subst (IsArrival plan s.brings.brings.members s.brings.brings.j) (same_own s) s.brings.brings.arrival) b.brings.arrival s.of_it

  pub own_fence_tells : (arrival : Event) → IsAmong p arrival places → node_of plan get.proc ≡ node → IsSent plan p key arrival.at → IsSureByOwnFence plan p key node get
  own_fence_tells arrival among on_node sent = record {
    on_node = on_node;
    own = own;
    brings = b;
    last = last;
    arrival = arrival;
    proc = among.proc;
    of_it = are.only among.k arrival among.is;
    sent = sent;
  }

  pub sent_by_own : (arrival : Event) → IsAmong p arrival places → IsSureByOwnFence plan p key node get → IsSent plan p key arrival.at
  sent_by_own arrival among s =
      let one = arrives_once plan s.arrival arrival b.brings.members b.brings.j (s.proc ∙ sym among.proc) (its_arrival s) (are.only among.k arrival among.is) in
      subst (IsSent plan p key) (ap (λ (e : Event). e.at) one) s.sent

  pub owner_calls : ((x : Event) → IsAmong p x places → ⊥) → IsSureByOwnFence plan p key node get → ⊥
  owner_calls none s = let found = are.all s.arrival (its_arrival s) in none s.arrival (record { k = found.0; is = found.1; proc = s.proc })
