use Rattle.std.proofs.Common.{ap, sym, subst, ◌∷◌, []}
use Rattle.wire_runs.specs.Plan.{event_of}
use Rattle.wire_scripts.specs.Planned.{plan_of}
use Rattle.wire_runs.specs.Puts.{own}
use Rattle.wire_runs.specs.Sight.{held}
use Rattle.wire_runs.proofs.Basics.{event_within}
use Rattle.wire_fates.specs.Pasts.{GivesSight}
use Rattle.wire_fates.proofs.KeyFates.{own_shown, own_hidden, own_never}
use Rattle.wire_fates.proofs.key_fates.own_reply.Goals as goal

pub value_reply-requires : goal.value_reply-requires
value_reply-requires c = event_within (plan_of c.args.plan.now) c.in-Some.put.proc.number c.in-Some.put.at _ c.in-Some.ensures.1.is

pub returns-then-put-event : goal.returns-then-put-event
returns-then-put-event c =
    let plan = plan_of c.args.plan.now in
    subst (λ q. GivesSight plan q.number (held (own plan q.number c.args.key c.args.event.at)) c.value_reply.result) c.in-Some.ensures.0
    (own_shown plan c.requires (event_of c.in-Some.put) c.args.key c.in-Some.ensures.1 c.args.event.at c.value_reply.result c.if-put-event.true c.value_reply.ensures)

pub returns-else-put-event : goal.returns-else-put-event
returns-else-put-event c =
    let plan = plan_of c.args.plan.now in
    subst (λ q. GivesSight plan q.number (held (own plan q.number c.args.key c.args.event.at)) c.bare-else-put-event.result) c.in-Some.ensures.0
    (own_hidden plan c.requires (event_of c.in-Some.put) c.args.key c.in-Some.ensures.1 c.args.event.at c.bare-else-put-event.result c.if-put-event.false
    (ap (λ r. r ∷ []) (sym c.bare-else-put-event.ensures)))

pub returns-in_default : goal.returns-in_default
returns-in_default c = own_never (plan_of c.args.plan.now) (event_of c.args.event) c.args.event.proc.number c.args.key c.bare.result c.args.event.at c.in_default.ensures
    (ap (λ r. r ∷ []) (sym c.bare.ensures))
