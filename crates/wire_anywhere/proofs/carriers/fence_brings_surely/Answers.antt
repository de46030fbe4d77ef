use Rattle.std.proofs.Common.{◌≤◌, ◌<◌, ◌+◌, ◌∙◌, ℕ, List, map, sym, refl, subst, arith}
use Rattle.std.proofs.lemmas.Bool.{true≢false}
use Rattle.wire_runs.specs.Plan.{event_of}
use Rattle.wire_runs.specs.Order.{IsArrival, Before}
use Rattle.wire_scripts.specs.Planned.{plan_of}
use Rattle.wire_plan.specs.Index.{IsDelivering, AreArrivals}
use Rattle.wire_races.proofs.KeyRaces.{owner_within}
use Rattle.wire_anywhere.proofs.Surely.{none_later, none_left, none_after, none_here, sure_here, found_first, found_none}
use Rattle.wire_anywhere.proofs.carriers.fence_brings_surely.Goals as goal

pub node_of-home-requires : goal.node_of-home-requires
node_of-home-requires c = rw c.plan-plan.ensures (owner_within (plan_of c.args.marked.now) c.args.asked.owner.number c.args.asked.key c.requires.once)

pub next_arrival-requires : goal.next_arrival-requires
next_arrival-requires c = rw c.plan-plan.ensures c.requires.once

pub deliveries-init : goal.deliveries-init
deliveries-init c = λ at lt s. omega (arith, lt)

pub returns-in_default : goal.returns-in_default
returns-in_default c =
    let plan = plan_of c.args.marked.now in
    let p = c.args.asked.owner.number in
    let home = rw c.plan-plan.ensures at c.node_of-home.ensures in
    let later = subst (λ n. (k : ℕ) → c.deliveries.from ≤ k → IsDelivering plan p c.args.asked.key n k → ⊥) home (rw c.plan-plan.ensures at c.in_default.ensures) in (
      (λ t. absurd (true≢false (sym t))),
      (λ s. absurd (none_later plan p c.args.asked.key c.args.proc.number (event_of c.args.asked.get_now) c.deliveries.from later c.deliveries.invariant s)),
    )

pub returns : goal.returns
returns c =
    let plan = plan_of c.args.marked.now in
    let p = c.args.asked.owner.number in
    let end = c.deliveries-test.false in (
      (λ t. absurd (true≢false (sym t))),
      (λ s. absurd (none_left plan p c.args.asked.key c.args.proc.number (event_of c.args.asked.get_now) c.deliveries.from c.event_count-count.result
          (rw c.plan-plan.ensures at c.event_count-count.ensures) (omega (arith, end)) c.deliveries.invariant s)),
    )

pub returns-then-not-before : goal.returns-then-not-before
returns-then-not-before c =
    let plan = plan_of c.args.marked.now in
    let p = c.args.asked.owner.number in
    let get = event_of c.args.asked.get_now in
    let at = c.in-Some.arrival.at in
    let home = rw c.plan-plan.ensures at c.node_of-home.ensures in
    let next = rw c.plan-plan.ensures at c.in-Some.ensures in
    let others = subst (λ n. (k : ℕ) → c.deliveries.from ≤ k → k < at → IsDelivering plan p c.args.asked.key n k → ⊥) home next.others in
    let never : Before plan (record { proc = p; at = at }) get → ⊥ =
    λ b. true≢false (sym (c.before-in-deliveries.ensures.1 (subst (λ q. Before plan (record { proc = q; at = at }) get) (sym next.proc) b)) ∙ c.if-not-before.true) in (
      (λ t. absurd (true≢false (sym t))),
      (λ s. absurd (none_after plan p c.args.asked.key c.args.proc.number get c.deliveries.from at others never c.deliveries.invariant s)),
    )

pub returns-then-is_some : goal.returns-then-is_some
returns-then-is_some c =
    let plan = plan_of c.args.marked.now in
    let p = c.args.asked.owner.number in
    let get = event_of c.args.asked.get_now in
    let at = c.in-Some.arrival.at in
    let home = rw c.plan-plan.ensures at c.node_of-home.ensures in
    let next = rw c.plan-plan.ensures at c.in-Some.ensures in
    let places = map event_of c.all_arrivals.result.now in
    let those = subst (λ q. (members : List ℕ) (j : ℕ) → IsArrival plan members j (record { proc = q; at = at }) → AreArrivals plan members j places) next.proc
    (rw c.plan-plan.ensures at c.all_arrivals.ensures) in
    let first = found_first places c.args.proc.number c.first_of.result (sym c.is_some.ensures ∙ c.if-is_some.true) c.first_of.ensures in (
      (λ t. sure_here plan p c.args.asked.key c.args.proc.number get at (subst (λ n. IsDelivering plan p c.args.asked.key n at) home next.delivers) places those first.0 first.1
          (subst (λ q. Before plan (record { proc = q; at = at }) get) next.proc (c.before-in-deliveries.ensures.0 c.if-not-before.false))),
      (λ s. refl),
    )

pub deliveries-preserved : goal.deliveries-preserved
deliveries-preserved c =
    let plan = plan_of c.args.marked.now in
    let p = c.args.asked.owner.number in
    let get = event_of c.args.asked.get_now in
    let at = c.in-Some.arrival.at in
    let home = rw c.plan-plan.ensures at c.node_of-home.ensures in
    let next = rw c.plan-plan.ensures at c.in-Some.ensures in
    let others = subst (λ n. (k : ℕ) → c.deliveries.from ≤ k → k < at → IsDelivering plan p c.args.asked.key n k → ⊥) home next.others in
    let places = map event_of c.all_arrivals.result.now in
    let those = subst (λ q. (members : List ℕ) (j : ℕ) → IsArrival plan members j (record { proc = q; at = at }) → AreArrivals plan members j places) next.proc
    (rw c.plan-plan.ensures at c.all_arrivals.ensures) in
    none_here plan p c.args.asked.key c.args.proc.number get c.deliveries.from at (at + 1) places (omega arith) others those
    (found_none places c.args.proc.number c.first_of.result (sym c.is_some.ensures ∙ c.if-is_some.false) c.first_of.ensures) c.deliveries.invariant

pub first_of-requires : goal.first_of-requires
first_of-requires c =
    let plan = plan_of c.args.marked.now in
    let at = c.in-Some.arrival.at in
    let next = rw c.plan-plan.ensures at c.in-Some.ensures in
    let places = map event_of c.all_arrivals.result.now in
    let those = subst (λ q. (members : List ℕ) (j : ℕ) → IsArrival plan members j (record { proc = q; at = at }) → AreArrivals plan members j places) next.proc
    (rw c.plan-plan.ensures at c.all_arrivals.ensures) in
    (those next.delivers.members next.delivers.j next.delivers.arrival).rising
