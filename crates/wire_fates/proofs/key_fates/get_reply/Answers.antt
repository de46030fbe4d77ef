use Rattle.std.proofs.Common.{◌≡◌, ◌∙◌, ◌<◌, ap, sym, subst, Some, nat_eq, eq-eqb}
use Rattle.std.proofs.lemmas.Bool.{true≢false}
use Rattle.wire_runs.specs.Plan.{Get, event_of, kind, node_of, same_node, process_count}
use Rattle.wire_runs.specs.Sight.{served}
use Rattle.wire_scripts.specs.Planned.{plan_of}
use Rattle.wire_runs.proofs.Basics.{process_within}
use Rattle.wire_fates.specs.Pasts.{GivesSight, GivesGet}
use Rattle.wire_fates.proofs.KeyFates.{get_shown, get_never}
use Rattle.wire_fates.proofs.key_fates.get_reply.Goals as goal

pub node_of-requires : goal.node_of-requires
node_of-requires c = subst (λ q. q.number < process_count (plan_of c.args.plan.now)) c.in-Some.ensures.0
    (process_within (plan_of c.args.plan.now) c.in-Some.put.proc.number c.in-Some.put.at _ c.in-Some.ensures.1.is)

pub node_of-requires-in-Some : goal.node_of-requires-in-Some
node_of-requires-in-Some c = process_within (plan_of c.args.plan.now) c.args.event.proc.number c.args.event.at _ c.requires.get

pub returns-in-Some : goal.returns-in-Some
returns-in-Some c =
    let plan = plan_of c.args.plan.now in
    let y = event_of c.args.event in
    let owned = c.in-Some.ensures.0 in
    let home : c.node_of.result ≡ node_of plan c.in-Some.put.proc.number = c.node_of.ensures ∙ ap (λ q. node_of plan q.number) (sym owned) in
    let away : c.node_of-in-Some.result ≡ node_of plan c.args.event.proc.number = c.node_of-in-Some.ensures in
    let same : nat_eq c.node_of.result c.node_of-in-Some.result ≡ same_node plan c.in-Some.put.proc.number c.args.event.proc.number = λ t. nat_eq (home t) (away t) in
    subst (λ q. GivesGet plan y q.number c.args.key c.served_reply.result) owned
    (get_shown plan c.requires.settled (event_of c.in-Some.put) c.args.key c.in-Some.ensures.1 y c.served_reply.result c.requires.live
    (subst (λ q. kind plan y ≡ Some (Get q.number c.args.key)) (sym owned) c.requires.get)
    (λ e. true≢false (sym (eq-eqb c.args.owner.number c.args.event.proc.number (sym (e ∙ ap (λ q. q.number) owned))) ∙ sym c.eq.ensures ∙ c.if-eq.false))
    (subst (λ b. GivesSight plan c.in-Some.put.proc.number (served plan c.in-Some.put.proc.number b (Some c.in-Some.put.at)) c.served_reply.result) same c.served_reply.ensures))

pub returns-in-None : goal.returns-in-None
returns-in-None c = absurd (get_never (plan_of c.args.plan.now) (event_of c.args.event) c.args.owner.number c.args.key c.bare.result c.requires.live c.requires.get
    (λ e. true≢false (sym (eq-eqb c.args.owner.number c.args.event.proc.number (sym e)) ∙ sym c.eq.ensures ∙ c.if-eq.false)) c.in-None.ensures)
