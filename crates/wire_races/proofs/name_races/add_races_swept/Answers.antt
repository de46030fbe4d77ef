use Rattle.std.proofs.Common.{◌≡◌, map, take, sym, subst, arith}
use Rattle.std.proofs.lemmas.List.{map_more, take_all}
use Rattle.wire_runs.specs.Plan.{event_of}
use Rattle.wire_scripts.specs.Planned.{plan_of}
use Rattle.wire_scripts.specs.Scripts.{numbers_of}
use Rattle.wire_races.specs.Adding.{AddsFindings}
use Rattle.wire_races.specs.NameRaces.{IsSweptAmong}
use Rattle.wire_fates.proofs.Places.{place_at}
use Rattle.wire_races.proofs.Growing.{adds_none, adds_same}
use Rattle.wire_races.proofs.NameRaces.{plain_here}
use Rattle.wire_races.proofs.Swept.{among_swept, among_on, on_among}
use Rattle.wire_races.proofs.name_races.add_races_swept.Goals as goal

pub loop-event-init : goal.loop-event-init
loop-event-init c = adds_none (plan_of c.args.marked.now) c.args.found.now _ c.requires.found (λ f r. r.1)

pub add_swept-requires-clause-x : goal.add_swept-requires-clause-x
add_swept-requires-clause-x c = plain_here (plan_of c.args.marked.now) c.args.name _ ((rw c.plan.ensures at c.name_calls-calls.ensures).only c.loop-event.event-index _
    (place_at c.name_calls-calls.result.now c.loop-event.event-index _ c.loop-event-test.true))

pub loop-event-preserved : goal.loop-event-preserved
loop-event-preserved c =
    let plan = plan_of c.args.marked.now in
    let name = c.args.name in
    let calls = c.name_calls-calls.result.now in
    let ps = numbers_of c.args.procs.now in
    let n = c.loop-event.event-index in
    subst (λ l. AddsFindings plan c.args.found.now c.add_swept.new.found (IsSweptAmong plan name l ps)) (sym (map_more event_of calls n _ c.loop-event-test.true))
    (among_swept plan name ps (map event_of (take n calls)) _ c.args.found.now c.loop-event.found c.add_swept.new.found c.loop-event.invariant c.in_ok-add_swept.ensures)

pub returns : goal.returns
returns c =
    let plan = plan_of c.args.marked.now in
    let name = c.args.name in
    let calls = c.name_calls-calls.result.now in
    let ps = numbers_of c.args.procs.now in
    let all : take c.loop-event.event-index calls ≡ calls = take_all c.loop-event.event-index calls (omega arith) in
    let are = rw c.plan.ensures at c.name_calls-calls.ensures in
    adds_same plan c.args.found.now c.loop-event.found _ _ (among_on plan name (map event_of calls) ps are c.requires.procs) (on_among plan name (map event_of calls) ps are c.requires.procs)
    (subst (λ l. AddsFindings plan c.args.found.now c.loop-event.found (IsSweptAmong plan name (map event_of l) ps)) all c.loop-event.invariant)
