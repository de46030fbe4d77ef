use Rattle.std.proofs.Common.{◌≡◌, ◌∙◌, sym, subst, map, arith}
use Rattle.std.proofs.lemmas.Bool.{true≢false}
use Rattle.wire_runs.specs.Plan.{event_of, node_of}
use Rattle.wire_runs.proofs.Basics.{process_within}
use Rattle.wire_runs.proofs.Fates.{live_event}
use Rattle.wire_scripts.specs.Planned.{plan_of}
use Rattle.wire_fates.specs.Deliveries.{IsSureByFence}
use Rattle.wire_fates.proofs.Arrivals.{of_rising}
use Rattle.wire_fates.proofs.OwnFences.{arrives_there, own_fence_sure, own_fence_tells, sent_by_own, owner_calls}
use Rattle.wire_fates.proofs.fence_deliveries.own_fence_brings.Goals as goal

pub node_of-requires : goal.node_of-requires
node_of-requires c =
    let plan = plan_of c.args.marked.now in
    let get = event_of c.args.asked.get_now in
    let there = live_event plan get c.requires.live in
    rw c.plan-plan.ensures (process_within plan get.proc get.at there.0 there.1)

pub returns-in-Some-find_arrival-clause-sure : goal.returns-in-Some-find_arrival-clause-sure
returns-in-Some-find_arrival-clause-sure c = λ t.
    let plan = plan_of c.args.marked.now in
    let get = event_of c.args.asked.get_now in
    let p = c.args.asked.owner.number in
    let key = c.args.asked.key in
    let on_node : node_of plan get.proc ≡ c.args.node = sym (rw c.plan-plan.ensures at c.node_of.ensures) ∙ (omega arith) in
    let own = rw c.plan-plan.ensures at c.in-Some.ensures in
    let those = rw c.plan-plan.ensures at c.all_arrivals.ensures in
    let sent = rw c.plan-plan.ensures at c.is_sent.ensures in
    subst (λ node. IsSureByFence plan p key node get) on_node
    (own_fence_sure plan get (event_of c.in-Some.own) (event_of c.in-Some-find_arrival.arrival) p key (map event_of c.all_arrivals.result.now) own.0 c.requires.live those
    c.in-Some-find_arrival.ensures ((sent c.requires.once).0 t))

pub find_arrival-requires : goal.find_arrival-requires
find_arrival-requires c =
    let plan = plan_of c.args.marked.now in
    let get = event_of c.args.asked.get_now in
    let own = rw c.plan-plan.ensures at c.in-Some.ensures in
    of_rising plan get (event_of c.in-Some.own) (arrives_there plan get (event_of c.in-Some.own) own.0) (map event_of c.all_arrivals.result.now)
    (rw c.plan-plan.ensures at c.all_arrivals.ensures)

pub returns-in_default-clause-exactly : goal.returns-in_default-clause-exactly
returns-in_default-clause-exactly c = (
  (λ t. absurd (true≢false (sym t))),
  (λ s. absurd ((rw c.plan-plan.ensures at c.in_default.ensures) s.own s.brings)),
)

pub returns-in-Some-find_arrival-clause-exactly : goal.returns-in-Some-find_arrival-clause-exactly
returns-in-Some-find_arrival-clause-exactly c =
    let plan = plan_of c.args.marked.now in
    let get = event_of c.args.asked.get_now in
    let p = c.args.asked.owner.number in
    let key = c.args.asked.key in
    let on_node : node_of plan get.proc ≡ c.args.node = sym (rw c.plan-plan.ensures at c.node_of.ensures) ∙ (omega arith) in
    let own = rw c.plan-plan.ensures at c.in-Some.ensures in
    let those = rw c.plan-plan.ensures at c.all_arrivals.ensures in
    let sent = (rw c.plan-plan.ensures at c.is_sent.ensures) c.requires.once in
    let places = map event_of c.all_arrivals.result.now in
    let arrival = event_of c.in-Some-find_arrival.arrival in
    let among = c.in-Some-find_arrival.ensures in (
      (λ t. own_fence_tells plan get (event_of c.in-Some.own) own.0 own.1 p key c.args.node places those arrival among on_node (sent.0 t)),
      (λ s. sent.1 (sent_by_own plan get (event_of c.in-Some.own) own.0 own.1 p key c.args.node places those arrival among s)),
    )

pub returns-in-None-clause-exactly : goal.returns-in-None-clause-exactly
returns-in-None-clause-exactly c =
    let plan = plan_of c.args.marked.now in
    let get = event_of c.args.asked.get_now in
    let own = rw c.plan-plan.ensures at c.in-Some.ensures in
    let those = rw c.plan-plan.ensures at c.all_arrivals.ensures in (
      (λ t. absurd (true≢false (sym t))),
      (λ s. absurd (owner_calls plan get (event_of c.in-Some.own) own.0 own.1 c.args.asked.owner.number c.args.asked.key c.args.node
          (map event_of c.all_arrivals.result.now) those c.in-None.ensures s)),
    )
