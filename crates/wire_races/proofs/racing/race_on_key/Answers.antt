use Rattle.std.proofs.Common.{subst, sym, ◌<◌}
use Rattle.wire_runs.specs.Plan.{Event, event_count}
use Rattle.wire_scripts.specs.Planned.{plan_of}
use Rattle.wire_races.proofs.Pairs.{first_there, on_key}
use Rattle.wire_races.proofs.racing.race_on_key.Goals as goal

pub add_event-requires-clause-there : goal.add_event-requires-clause-there
add_event-requires-clause-there c =
    let plan = plan_of c.args.marked.now in
    subst (λ (z : Event). z.at < event_count plan z.proc) (sym (rw c.plan-plan.ensures at c.first_event.ensures)) (first_there plan c.args.x c.requires.x_there)

pub add_event-requires-2-clause-there : goal.add_event-requires-2-clause-there
add_event-requires-2-clause-there c =
    let plan = plan_of c.args.marked.now in
    subst (λ (z : Event). z.at < event_count plan z.proc) (sym (rw c.plan-plan.ensures at c.first_event-2.ensures)) (first_there plan c.args.y c.requires.y_there)

pub returns : goal.returns
returns c =
    let first = rw (c.first_event.ensures, c.plan-plan.ensures) at c.in_ok-add_event.ensures in
    let second = rw (c.first_event-2.ensures, c.plan-plan.ensures) at c.in_ok-add_event-2.ensures in
    let told = on_key (plan_of c.args.marked.now) c.args.x c.args.y c.new-found.result c.add_event.new.found c.add_event-2.new.found c.new-found.ensures first second in
    let reported = rw c.as_met-list.ensures at c.is_reported.ensures in
    ((λ t. told.0 (reported.0 t)), (λ r. reported.1 (told.1 r)))
