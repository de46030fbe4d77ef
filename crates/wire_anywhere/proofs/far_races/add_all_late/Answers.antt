use Rattle.std.proofs.Common.{ℕ, ◌≤◌, ◌<◌, ◌+◌, ◌∙◌, sym, subst, arith}
use Rattle.std.proofs.lemmas.Bool.{true≢false}
use Rattle.wire_runs.specs.Plan.{event_of, node_of}
use Rattle.wire_scripts.specs.Planned.{plan_of}
use Rattle.wire_plan.specs.Index.{IsDelivering}
use Rattle.wire_fates.specs.Deliveries.{MayBeLate}
use Rattle.wire_races.proofs.KeyRaces.{owner_within}
use Rattle.wire_races.proofs.Deliveries.{past_all}
use Rattle.wire_anywhere.proofs.Far.{no_fence, late_more, late_whole, no_later, late_done}
use Rattle.wire_anywhere.proofs.far_races.add_all_late.Goals as goal

pub node_of-home-requires : goal.node_of-home-requires
node_of-home-requires c = rw c.plan-plan.ensures (owner_within (plan_of c.args.marked.now) c.args.asked.owner.number c.args.asked.key c.requires.unsure.opened.once)

pub next_arrival-requires : goal.next_arrival-requires
next_arrival-requires c = rw c.plan-plan.ensures c.requires.unsure.opened.once

pub deliveries-init : goal.deliveries-init
deliveries-init c = no_fence (plan_of c.args.marked.now) (event_of c.args.asked.get_now) c.args.asked.owner.number c.args.asked.key c.args.found.now

pub returns-in_default : goal.returns-in_default
returns-in_default c =
    let plan = plan_of c.args.marked.now in
    let p = c.args.asked.owner.number in
    let home = rw c.plan-plan.ensures at c.node_of-home.ensures in
    late_whole plan (event_of c.args.asked.get_now) p c.args.asked.key c.args.found.now c.deliveries.found c.deliveries.from
    (subst (λ n. (k : ℕ) → c.deliveries.from ≤ k → IsDelivering plan p c.args.asked.key n k → ⊥) home (rw c.plan-plan.ensures at c.in_default.ensures)) c.deliveries.invariant

pub deliveries-preserved : goal.deliveries-preserved
deliveries-preserved c =
    let plan = plan_of c.args.marked.now in
    let p = c.args.asked.owner.number in
    let at = c.in-Some.arrival.at in
    let home = rw c.plan-plan.ensures at c.node_of-home.ensures in
    let next = rw c.plan-plan.ensures at c.in-Some.ensures in
    late_more plan (event_of c.args.asked.get_now) p c.args.asked.key c.args.found.now c.deliveries.found c.add_late.new.found c.deliveries.from at (at + 1) next.after (omega arith)
    (subst (λ n. (k : ℕ) → c.deliveries.from ≤ k → k < at → IsDelivering plan p c.args.asked.key n k → ⊥) home next.others) c.deliveries.invariant c.in_ok-add_late.ensures

pub returns : goal.returns
returns c =
    let plan = plan_of c.args.marked.now in
    let p = c.args.asked.owner.number in
    let end = c.deliveries-test.false in
    late_whole plan (event_of c.args.asked.get_now) p c.args.asked.key c.args.found.now c.deliveries.found c.deliveries.from
    (past_all plan p c.args.asked.key (node_of plan p) c.deliveries.from c.event_count-count.result (rw c.plan-plan.ensures at c.event_count-count.ensures) (omega (arith, end))) c.deliveries.invariant

pub returns-then-not-may_be_late : goal.returns-then-not-may_be_late
returns-then-not-may_be_late c =
    let plan = plan_of c.args.marked.now in
    let p = c.args.asked.owner.number in
    let get = event_of c.args.asked.get_now in
    let at = c.in-Some.arrival.at in
    let home = rw c.plan-plan.ensures at c.node_of-home.ensures in
    let next = rw c.plan-plan.ensures at c.in-Some.ensures in
    let others = subst (λ n. (k : ℕ) → c.deliveries.from ≤ k → k < at → IsDelivering plan p c.args.asked.key n k → ⊥) home next.others in
    let delivers = subst (λ n. IsDelivering plan p c.args.asked.key n at) home next.delivers in
    let never : MayBeLate plan get (record { proc = p; at = at }) →
    ⊥ = λ m. true≢false (sym (c.may_be_late.ensures.1 (subst (λ q. MayBeLate plan get (record { proc = q; at = at })) (sym next.proc) m)) ∙ c.if-not-may_be_late.true) in
    late_done plan get p c.args.asked.key c.args.found.now c.deliveries.found c.deliveries.from (no_later plan get p c.args.asked.key c.deliveries.from at others delivers never) c.deliveries.invariant

pub add_late-requires-clause-may : goal.add_late-requires-clause-may
add_late-requires-clause-may c = c.may_be_late.ensures.0 c.if-not-may_be_late.false

pub add_late-requires-clause-delivers : goal.add_late-requires-clause-delivers
add_late-requires-clause-delivers c =
    let plan = plan_of c.args.marked.now in
    let home = rw c.plan-plan.ensures at c.node_of-home.ensures in
    let next = rw c.plan-plan.ensures at c.in-Some.ensures in
    subst (λ n. IsDelivering plan c.args.asked.owner.number c.args.asked.key n c.in-Some.arrival.at) home next.delivers

pub may_be_late-requires-clause-delivers : goal.may_be_late-requires-clause-delivers
may_be_late-requires-clause-delivers c =
    let plan = plan_of c.args.marked.now in
    let home = rw c.plan-plan.ensures at c.node_of-home.ensures in
    let next = rw c.plan-plan.ensures at c.in-Some.ensures in
    subst (λ n. IsDelivering plan c.args.asked.owner.number c.args.asked.key n c.in-Some.arrival.at) home next.delivers
