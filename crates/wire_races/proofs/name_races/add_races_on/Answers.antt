use Rattle.std.proofs.Common.{◌≡◌, map, take, sym, subst, arith}
use Rattle.std.proofs.lemmas.List.{map_more, take_all}
use Rattle.wire_runs.specs.Plan.{event_of}
use Rattle.wire_scripts.specs.Planned.{plan_of}
use Rattle.wire_races.specs.Adding.{AddsFindings}
use Rattle.wire_races.specs.NameRaces.{IsPlainRaceOn}
use Rattle.wire_fates.proofs.Places.{place_at}
use Rattle.wire_races.proofs.Growing.{adds_none, adds_same}
use Rattle.wire_races.proofs.NameRaces.{plain_here, IsRaceAmong, with_more, among_on, on_among}
use Rattle.wire_races.proofs.name_races.add_races_on.Goals as goal

pub loop-event-init : goal.loop-event-init
loop-event-init c = adds_none (plan_of c.args.marked.now) c.args.found.now _ c.requires.found (λ f r. r.1)

pub loop-event-preserved : goal.loop-event-preserved
loop-event-preserved c =
    let plan = plan_of c.args.marked.now in
    let calls = c.name_calls-calls.result.now in
    let n = c.loop-event.event-index in
    subst (λ l. AddsFindings plan c.args.found.now c.add_call.new.found (IsRaceAmong plan c.args.name l)) (sym (map_more event_of calls n _ c.loop-event-test.true))
    (with_more plan c.args.name (map event_of (take n calls)) _ c.args.found.now c.loop-event.found c.add_call.new.found c.loop-event.invariant c.in_ok-add_call.ensures)

pub returns : goal.returns
returns c =
    let plan = plan_of c.args.marked.now in
    let calls = c.name_calls-calls.result.now in
    let all : take c.loop-event.event-index calls ≡ calls = take_all c.loop-event.event-index calls (omega arith) in
    let are = (rw c.plan-plan.ensures at c.name_calls-calls.ensures) in
    adds_same plan c.args.found.now c.loop-event.found (IsRaceAmong plan c.args.name (map event_of calls)) (IsPlainRaceOn plan c.args.name)
    (among_on plan c.args.name (map event_of calls) are) (on_among plan c.args.name (map event_of calls) are)
    (subst (λ l. AddsFindings plan c.args.found.now c.loop-event.found (IsRaceAmong plan c.args.name (map event_of l))) all c.loop-event.invariant)

pub rivals_of-requires-clause-x : goal.rivals_of-requires-clause-x
rivals_of-requires-clause-x c = rw c.plan-plan.ensures ((rw c.plan-plan.ensures at c.name_calls-calls.ensures).only c.loop-event.event-index _
    (place_at c.name_calls-calls.result.now c.loop-event.event-index _ c.loop-event-test.true))

pub add_call-requires-clause-x : goal.add_call-requires-clause-x
add_call-requires-clause-x c = plain_here (plan_of c.args.marked.now) c.args.name _ ((rw c.plan-plan.ensures at c.name_calls-calls.ensures).only c.loop-event.event-index _
    (place_at c.name_calls-calls.result.now c.loop-event.event-index _ c.loop-event-test.true))

pub add_call-requires-clause-higher : goal.add_call-requires-clause-higher
add_call-requires-clause-higher c = rw c.plan-plan.ensures at c.rivals_of.ensures.higher
