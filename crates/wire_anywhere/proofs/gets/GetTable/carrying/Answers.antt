use Rattle.std.proofs.Common.{◌∙◌, ap, sym, subst, map}
use Rattle.std.specs.Prelude.{option_map}
use Rattle.std.proofs.lemmas.Option.{slice_get-map}
use Rattle.wire_runs.specs.Plan.{event_of, node_of}
use Rattle.wire_runs.proofs.Basics.{process_within}
use Rattle.wire_scripts.specs.Planned.{plan_of}
use Rattle.wire_plan.specs.Index.{AreGetDeliveries}
use Rattle.wire_anywhere.proofs.KeptGets.{none_at_all, none_carrying, all_carrying, none_first, no_events, some_events}
use Rattle.wire_anywhere.proofs.gets.GetTable.carrying.Goals as goal

pub returns-in_default : goal.returns-in_default
returns-in_default c =
    let plan = plan_of c.args.plan.now in
    let gets = c.gets-gets.result.now in
    none_at_all plan c.args.asked.owner.number c.args.asked.key (map event_of gets) (c.gets-gets.ensures plan c.requires.lists) (none_first gets c.in_default.ensures.value)

pub node_of-node-requires : goal.node_of-node-requires
node_of-node-requires c =
    let plan = plan_of c.args.plan.now in
    let gets = c.gets-gets.result.now in
    let is = slice_get-map event_of gets 0 ∙ ap (option_map event_of) (sym c.in-Some.ensures.value) in
    process_within plan c.in-Some.first.now.proc.number c.in-Some.first.now.at _ ((c.gets-gets.ensures plan c.requires.lists).only 0 (event_of c.in-Some.first.now) is).is

pub returns-then-is_empty : goal.returns-then-is_empty
returns-then-is_empty c =
    let plan = plan_of c.args.plan.now in
    let p = c.args.asked.owner.number in
    let gets = c.gets-gets.result.now in
    let is = slice_get-map event_of gets 0 ∙ ap (option_map event_of) (sym c.in-Some.ensures.value) in
    none_carrying plan p c.args.asked.key (map event_of gets) (c.gets-gets.ensures plan c.requires.lists) (event_of c.in-Some.first.now) is
    (subst (AreGetDeliveries plan p c.args.asked.key (node_of plan c.in-Some.first.now.proc.number)) (no_events c.gets_to.result.now (sym c.is_empty.ensures ∙ c.if-is_empty.true))
    (subst (λ n. AreGetDeliveries plan p c.args.asked.key n (map event_of c.gets_to.result.now)) c.node_of-node.ensures (c.gets_to.ensures c.requires.once)))

pub returns-else-is_empty : goal.returns-else-is_empty
returns-else-is_empty c =
    let plan = plan_of c.args.plan.now in
    let p = c.args.asked.owner.number in
    let gets = c.gets-gets.result.now in
    let is = slice_get-map event_of gets 0 ∙ ap (option_map event_of) (sym c.in-Some.ensures.value) in
    all_carrying plan p c.args.asked.key (map event_of gets) (c.gets-gets.ensures plan c.requires.lists) (event_of c.in-Some.first.now) is (map event_of c.gets_to.result.now)
    (some_events c.gets_to.result.now (sym c.is_empty.ensures ∙ c.if-is_empty.false))
    (subst (λ n. AreGetDeliveries plan p c.args.asked.key n (map event_of c.gets_to.result.now)) c.node_of-node.ensures (c.gets_to.ensures c.requires.once))
