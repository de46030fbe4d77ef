use Rattle.std.proofs.Common.{◌∙◌, ap, subst, Some, arith}
use Rattle.wire_runs.specs.Plan.{event_of}
use Rattle.wire_scripts.specs.Planned.{plan_of}
use Rattle.wire_plan.specs.Index.{IsFirstPut}
use Rattle.wire_plan.specs.Kinds.{kind_of}
use Rattle.wire_races.proofs.Later.{is_first, never_first}
use Rattle.wire_races.proofs.rewrites.first_put_before.Goals as goal

pub returns-in_default-first_put : goal.returns-in_default-first_put
returns-in_default-first_put c =
    let plan = plan_of c.args.plan.now in
    let later = c.if-first-event.false in
    is_first plan (event_of c.args.event) c.in-Put.key c.in-Put.scope (c.kind.ensures ∙ ap (λ k. Some (kind_of c.args.plan.now.sets k)) c.in-Put.is) c.in-Some.first.at
    (subst (λ q. IsFirstPut plan (record { proc = q.number; at = c.in-Some.first.at }) c.in-Put.key) c.in-Some.ensures.0 c.in-Some.ensures.1)
    (omega (arith, later))

pub returns-in_default-first_put-2 : goal.returns-in_default-first_put-2
returns-in_default-first_put-2 c =
    never_first (plan_of c.args.plan.now) (event_of c.args.event) c.in-Put.key c.in-Put.scope (c.kind.ensures ∙ ap (λ k. Some (kind_of c.args.plan.now.sets k)) c.in-Put.is)
    c.in_default-first_put.ensures
