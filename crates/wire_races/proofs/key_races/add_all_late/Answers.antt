use Rattle.std.proofs.Common.{ℕ, ◌≤◌, ◌<◌, ◌+◌, ◌∙◌, sym, subst, refl, arith}
use Rattle.std.proofs.lemmas.Bool.{true≢false}
use Rattle.wire_runs.specs.Plan.{event_of, node_of, event_count}
use Rattle.wire_scripts.specs.Planned.{plan_of}
use Rattle.wire_plan.specs.Index.{IsDelivering}
use Rattle.wire_fates.specs.Deliveries.{MayBeLate}
use Rattle.wire_races.proofs.Deliveries.{late_more, late_whole, past_all, no_later, late_done}
use Rattle.wire_races.proofs.key_races.add_all_late.Goals as goal

pub returns-in_default : goal.returns-in_default
returns-in_default c =
    let plan = plan_of c.args.marked.now in
    let p = c.args.asked.owner.number in
    late_whole plan (event_of c.args.asked.get_now) p c.args.asked.key (node_of plan c.args.asked.get_now.proc.number) c.args.found.now c.deliveries.found c.deliveries.from (event_count plan p) refl
    (subst (λ n. (k : ℕ) → c.deliveries.from ≤ k → IsDelivering plan p c.args.asked.key n k → ⊥) c.requires.node (rw c.plan-plan.ensures at c.in_default.ensures)) c.deliveries.invariant

pub deliveries-preserved : goal.deliveries-preserved
deliveries-preserved c =
    let plan = plan_of c.args.marked.now in
    let p = c.args.asked.owner.number in
    let at = c.in-Some.arrival.at in
    let next = rw c.plan-plan.ensures at c.in-Some.ensures in
    late_more plan (event_of c.args.asked.get_now) p c.args.asked.key (node_of plan c.args.asked.get_now.proc.number) c.args.found.now c.deliveries.found c.add_late.new.found c.deliveries.from at
    (at + 1) next.after (omega arith)
    (subst (λ n. (k : ℕ) → c.deliveries.from ≤ k → k < at → IsDelivering plan p c.args.asked.key n k → ⊥) c.requires.node next.others) c.deliveries.invariant c.in_ok-add_late.ensures

pub returns : goal.returns
returns c =
    let plan = plan_of c.args.marked.now in
    let p = c.args.asked.owner.number in
    let node = node_of plan c.args.asked.get_now.proc.number in
    let end = c.deliveries-test.false in
    late_whole plan (event_of c.args.asked.get_now) p c.args.asked.key node c.args.found.now c.deliveries.found c.deliveries.from (event_count plan p) refl
    (past_all plan p c.args.asked.key node c.deliveries.from c.event_count-count.result (rw c.plan-plan.ensures at c.event_count-count.ensures) (omega (arith, end))) c.deliveries.invariant

pub returns-then-not-may_be_late : goal.returns-then-not-may_be_late
returns-then-not-may_be_late c =
    let plan = plan_of c.args.marked.now in
    let p = c.args.asked.owner.number in
    let node = node_of plan c.args.asked.get_now.proc.number in
    let get = event_of c.args.asked.get_now in
    let at = c.in-Some.arrival.at in
    let next = rw c.plan-plan.ensures at c.in-Some.ensures in
    let others = subst (λ n. (k : ℕ) → c.deliveries.from ≤ k → k < at → IsDelivering plan p c.args.asked.key n k → ⊥) c.requires.node next.others in
    let delivers = subst (λ n. IsDelivering plan p c.args.asked.key n at) c.requires.node next.delivers in
    let never : MayBeLate plan get (record { proc = p; at = at }) →
    ⊥ = λ m. true≢false (sym (c.may_be_late.ensures.1 (subst (λ q. MayBeLate plan get (record { proc = q; at = at })) (sym next.proc) m)) ∙ c.if-not-may_be_late.true) in
    late_done plan get p c.args.asked.key node c.args.found.now c.deliveries.found c.deliveries.from (event_count plan p) refl
    (no_later plan get p c.args.asked.key node c.deliveries.from at others delivers never) c.deliveries.invariant

pub add_late-requires-clause-may : goal.add_late-requires-clause-may
add_late-requires-clause-may c = c.may_be_late.ensures.0 c.if-not-may_be_late.false
