use Rattle.std.proofs.Common.{◌≡◌, ◌∙◌, sym, subst, ℕ, Bool, true, false}
use Rattle.std.proofs.lemmas.Bool.{true≢false}
use Rattle.std.proofs.lemmas.Result.{on_ok_weaker}
use Rattle.wire_runs.specs.Plan.{Plan, Event, event_of, node_of, same_node}
use Rattle.wire_scripts.specs.Planned.{plan_of}
use Rattle.wire_runs.specs.Races.{ComesSurely}
use Rattle.wire_runs.proofs.Basics.{process_within}
use Rattle.wire_races.specs.KeyRaces.{IsOpenRead, IsUnsure}
use Rattle.wire_races.proofs.Deliveries.{sure_none, adds_late}
use Rattle.wire_races.proofs.key_races.add_delivery_races.Goals as goal

pub node_of-node-requires : goal.node_of-node-requires
node_of-node-requires c = rw c.plan.ensures (process_within (plan_of c.args.marked.now) c.args.asked.get_now.proc.number c.args.asked.get_now.at _ c.requires.get.is)

is_unsure : (plan : Plan) (get : Event) (owner key node : ℕ) (sure : Bool) → IsOpenRead plan get owner key → same_node plan owner get.proc ≡ false → node ≡ node_of plan get.proc →
    (ComesSurely plan owner key node get → sure ≡ true) → sure ≡ false → IsUnsure plan get owner key
is_unsure plan get owner key node sure opened other is told unsure =
    record { opened = opened; other = other; not_sure = λ s. true≢false (sym (told (subst (λ n. ComesSurely plan owner key n get) (sym is) s)) ∙ unsure) }

pub returns-then-comes_surely : goal.returns-then-comes_surely
returns-then-comes_surely c =
    let plan = plan_of c.args.marked.now in
    let get = event_of c.args.asked.get_now in
    let owner = c.args.asked.owner.number in
    let node = rw c.plan.ensures at c.node_of-node.ensures in
    sure_none plan get owner c.args.asked.key c.args.found.now c.requires.get c.requires.node
    (subst (λ n. ComesSurely plan owner c.args.asked.key n get) node (c.comes_surely.ensures.0 c.if-comes_surely.true)) c.requires.found

pub add_all_late-requires-clause-late : goal.add_all_late-requires-clause-late
add_all_late-requires-clause-late c =
    is_unsure (plan_of c.args.marked.now) (event_of c.args.asked.get_now) c.args.asked.owner.number c.args.asked.key c.node_of-node.result c.comes_surely.result c.requires.get c.requires.node
    (rw c.plan.ensures at c.node_of-node.ensures) c.comes_surely.ensures.1 c.if-comes_surely.false

pub add_get_races-requires-clause-late : goal.add_get_races-requires-clause-late
add_get_races-requires-clause-late c =
    is_unsure (plan_of c.args.marked.now) (event_of c.args.asked.get_now) c.args.asked.owner.number c.args.asked.key c.node_of-node.result c.comes_surely.result c.requires.get c.requires.node
    (rw c.plan.ensures at c.node_of-node.ensures) c.comes_surely.ensures.1 c.if-comes_surely.false

pub returns : goal.returns
returns c =
    let plan = plan_of c.args.marked.now in
    let get = event_of c.args.asked.get_now in
    let owner = c.args.asked.owner.number in
    let late = is_unsure plan get owner c.args.asked.key c.node_of-node.result c.comes_surely.result c.requires.get c.requires.node
    (rw c.plan.ensures at c.node_of-node.ensures) c.comes_surely.ensures.1 c.if-comes_surely.false in
    on_ok_weaker c.add_get_races.result (λ h. adds_late plan get owner c.args.asked.key late c.args.found.now c.add_all_late.new.found c.add_get_races.new.found c.in_ok-add_all_late.ensures h)
    c.add_get_races.ensures
