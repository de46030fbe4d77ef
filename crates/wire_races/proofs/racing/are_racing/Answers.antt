use Rattle.std.proofs.Common.{◌∙◌, inl, inr, ⊎_elim, refl, subst, sym, ◌<◌}
use Rattle.std.proofs.lemmas.Bool.{true≢false}
use Rattle.std.proofs.lemmas.Result.{IfOk-weaker}
use Rattle.wire_runs.specs.Plan.{Event, event_count}
use Rattle.wire_scripts.specs.Planned.{plan_of}
use Rattle.wire_races.proofs.Pairs.{first_there}
use Rattle.wire_races.proofs.racing.are_racing.Goals as goal

pub race_on_name-requires-clause-x_there : goal.race_on_name-requires-clause-x_there
race_on_name-requires-clause-x_there c =
    let plan = plan_of c.args.marked.now in
    subst (λ (z : Event). z.at < event_count plan z.proc) (sym (rw c.plan-plan.ensures at c.first_event.ensures)) (first_there plan c.args.x c.requires.x_there)

pub race_on_name-requires-clause-y_there : goal.race_on_name-requires-clause-y_there
race_on_name-requires-clause-y_there c =
    let plan = plan_of c.args.marked.now in
    subst (λ (z : Event). z.at < event_count plan z.proc) (sym (rw c.plan-plan.ensures at c.first_event-2.ensures)) (first_there plan c.args.y c.requires.y_there)

pub returns-then-branch : goal.returns-then-branch
returns-then-branch c = (λ t. inl (c.in_ok-race_on_key.ensures.0 c.if-branch.true), λ r. refl)

pub returns : goal.returns
returns c = IfOk-weaker c.race_on_name.result _ _
    (λ race h. (λ t. inr (h.0 t), λ r. ⊎_elim (λ k. absurd (true≢false (sym (c.in_ok-race_on_key.ensures.1 k) ∙ c.if-branch.false))) h.1 r))
    (rw (c.first_event.ensures, c.first_event-2.ensures, c.plan-plan.ensures) at c.race_on_name.ensures)
