use Rattle.std.proofs.Common.{◌∙◌, ap, sym, subst, ◌∷◌, []}
use Rattle.std.proofs.lemmas.Bool.{true≢false}
use Rattle.wire_runs.specs.Plan.{event_of}
use Rattle.wire_scripts.specs.Planned.{plan_of}
use Rattle.wire_runs.specs.Races.{ComesSurely}
use Rattle.wire_runs.proofs.Basics.{process_within, event_within}
use Rattle.wire_runs.proofs.Fates.{live_event}
use Rattle.wire_fates.proofs.KeyFates.{once, brought_sure, brought_unsure}
use Rattle.wire_fates.proofs.key_fates.away_reply.Goals as goal

pub node_of-requires : goal.node_of-requires
node_of-requires c = rw c.plan-plan.ensures (
    let v = live_event (plan_of c.args.marked.now) (event_of c.args.event) c.requires.live in
    process_within (plan_of c.args.marked.now) c.args.event.proc.number c.args.event.at v.0 v.1)

pub comes_surely-requires-clause-once : goal.comes_surely-requires-clause-once
comes_surely-requires-clause-once c = once (plan_of c.args.marked.now) c.requires.settled (event_of c.args.put) c.args.key c.requires.put

pub value_reply-requires : goal.value_reply-requires
value_reply-requires c = rw c.plan-plan.ensures (event_within (plan_of c.args.marked.now) c.args.put.proc.number c.args.put.at _ c.requires.put.is)

pub returns-then-comes_surely : goal.returns-then-comes_surely
returns-then-comes_surely c = λ s cut got.
    let plan = plan_of c.args.marked.now in
    brought_sure plan c.requires.settled (event_of c.args.put) c.args.key c.requires.put (event_of c.args.event) c.requires.away s cut got c.value_reply.result
    (subst (λ n. ComesSurely plan c.args.put.proc.number c.args.key n (event_of c.args.event)) (rw c.plan-plan.ensures at c.node_of.ensures)
    (c.comes_surely.ensures.0 c.if-comes_surely.true))
    (rw c.plan-plan.ensures at c.value_reply.ensures)

pub returns-else-comes_surely : goal.returns-else-comes_surely
returns-else-comes_surely c = λ s cut got.
    let plan = plan_of c.args.marked.now in
    brought_unsure plan c.requires.settled (event_of c.args.put) c.args.key c.requires.put (event_of c.args.event) c.requires.away s cut got c.bare.result
    (λ sure. true≢false (sym (c.comes_surely.ensures.1
    (subst (λ n. ComesSurely plan c.args.put.proc.number c.args.key n (event_of c.args.event)) (sym (rw c.plan-plan.ensures at c.node_of.ensures)) sure)) ∙ c.if-comes_surely.false))
    (ap (λ r. r ∷ []) (sym c.bare.ensures))
