use Rattle.std.proofs.Common.{◌∙◌, ◌<◌, ap, sym, subst, ◌∷◌, [], eq-eqb}
use Rattle.std.proofs.lemmas.Bool.{true≢false}
use Rattle.wire_runs.specs.Plan.{event_of, process_count}
use Rattle.wire_scripts.specs.Planned.{plan_of}
use Rattle.wire_runs.proofs.Basics.{process_within}
use Rattle.wire_runs.proofs.Fates.{live_event}
use Rattle.wire_fates.proofs.KeyFates.{now_never}
use Rattle.wire_fates.proofs.key_fates.get_now_reply.Goals as goal

pub returns-in_default : goal.returns-in_default
returns-in_default c = now_never (plan_of c.args.marked.now) (event_of c.args.event) c.args.owner.number c.args.key c.bare.result
    (λ e. true≢false (sym (eq-eqb c.args.owner.number c.args.event.proc.number (sym e)) ∙ sym c.eq.ensures ∙ c.if-eq.false)) (rw c.plan-plan.ensures at c.in_default.ensures)
    (ap (λ r. r ∷ []) (sym c.bare.ensures))

pub node_of-requires : goal.node_of-requires
node_of-requires c = rw c.plan-plan.ensures (subst (λ q. q.number < process_count (plan_of c.args.marked.now)) (rw c.plan-plan.ensures at c.in-Some.ensures).0
    (process_within (plan_of c.args.marked.now) c.in-Some.put.proc.number c.in-Some.put.at _ (rw c.plan-plan.ensures at c.in-Some.ensures).1.is))

pub node_of-requires-2 : goal.node_of-requires-2
node_of-requires-2 c = rw c.plan-plan.ensures (
    let v = live_event (plan_of c.args.marked.now) (event_of c.args.event) c.requires.live in
    process_within (plan_of c.args.marked.now) c.args.event.proc.number c.args.event.at v.0 v.1)
