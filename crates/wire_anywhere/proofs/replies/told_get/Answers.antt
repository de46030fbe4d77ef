use Rattle.std.proofs.Common.{◌∙◌, ap, refl, sym, subst, eq-eqb, eqb-true}
use Rattle.std.specs.Prelude.{◌≢◌}
use Rattle.std.proofs.lemmas.Bool.{true≢false}
use Rattle.wire_runs.specs.Plan.{event_of}
use Rattle.wire_runs.specs.Puts.{scope_of}
use Rattle.wire_scripts.specs.Planned.{plan_of}
use Rattle.wire_plan.specs.Index.{IsFirstPut}
use Rattle.wire_runs.proofs.Basics.{event_within}
use Rattle.wire_anywhere.proofs.PlacedReplies.{own_get, never_get, get_alike, get_differs}
use Rattle.wire_anywhere.proofs.replies.told_get.Goals as goal

pub returns-then-eq : goal.returns-then-eq
returns-then-eq c =
    own_get (plan_of c.args.plan.now) c.requires.settled (event_of c.args.event) c.args.owner.number c.args.key c.requires.get
    (sym (eqb-true c.args.owner.number c.args.event.proc.number (sym c.eq.ensures ∙ c.if-eq.true)))

pub returns-in_default : goal.returns-in_default
returns-in_default c =
    let ne : c.args.event.proc.number ≢ c.args.owner.number = λ e. true≢false (sym (eq-eqb c.args.owner.number c.args.event.proc.number (sym e)) ∙ sym c.eq.ensures ∙ c.if-eq.false) in
    absurd (never_get (plan_of c.args.plan.now) c.requires.settled (event_of c.args.event) c.requires.answered c.args.owner.number c.args.key 0 ne c.requires.get c.in_default.ensures)

pub returns-then-is_global : goal.returns-then-is_global
returns-then-is_global c =
    let plan = plan_of c.args.plan.now in
    let ne : c.args.event.proc.number ≢ c.args.owner.number = λ e. true≢false (sym (eq-eqb c.args.owner.number c.args.event.proc.number (sym e)) ∙ sym c.eq.ensures ∙ c.if-eq.false) in
    let owned = c.in-Some.ensures.0 in
    let first = subst (λ q. IsFirstPut plan (record { proc = q.number; at = c.in-Some.put.at }) c.args.key) owned c.in-Some.ensures.1 in
    get_alike plan c.requires.settled (event_of c.args.event) c.requires.answered c.args.owner.number c.args.key c.in-Some.put.at ne first c.scope_of-scope.result
    (c.scope_of-scope.ensures ∙ ap (λ q. scope_of plan q.number c.in-Some.put.at) owned) c.requires.get (c.if-is_global.ensures.0 refl)

pub call_of-requires : goal.call_of-requires
call_of-requires c = event_within (plan_of c.args.plan.now) c.args.event.proc.number c.args.event.at _ c.requires.get

pub returns : goal.returns
returns c =
    let plan = plan_of c.args.plan.now in
    let ne : c.args.event.proc.number ≢ c.args.owner.number = λ e. true≢false (sym (eq-eqb c.args.owner.number c.args.event.proc.number (sym e)) ∙ sym c.eq.ensures ∙ c.if-eq.false) in
    let owned = c.in-Some.ensures.0 in
    let first = subst (λ q. IsFirstPut plan (record { proc = q.number; at = c.in-Some.put.at }) c.args.key) owned c.in-Some.ensures.1 in
    get_differs plan c.requires.settled (event_of c.args.event) c.requires.answered c.args.owner.number c.args.key c.in-Some.put.at ne first c.scope_of-scope.result
    (c.scope_of-scope.ensures ∙ ap (λ q. scope_of plan q.number c.in-Some.put.at) owned) c.requires.get c.call_of.result c.served.result c.served-2.result c.call_of.ensures
    (λ g. true≢false (sym (c.if-is_global.ensures.1 g))) c.served.ensures c.served-2.ensures
