use Rattle.std.proofs.Common.{◌≡◌, map, take, sym, subst, arith}
use Rattle.std.proofs.lemmas.List.{map_more, take_all}
use Rattle.wire_runs.specs.Plan.{event_of}
use Rattle.wire_scripts.specs.Planned.{plan_of}
use Rattle.wire_findings.specs.Collected.{IsFindingAdded}
use Rattle.wire_races.specs.Adding.{AddsFindings}
use Rattle.wire_races.specs.NameRaces.{IsNameRaceWith}
use Rattle.wire_fates.proofs.Places.{place_at}
use Rattle.wire_races.proofs.Growing.{adds_none}
use Rattle.wire_races.proofs.NameRaces.{between_calls, racing_calls, one_more_race}
use Rattle.wire_races.proofs.call_races.add_races.Goals as goal

pub loop-y-init : goal.loop-y-init
loop-y-init c = adds_none (plan_of c.args.plan.now) c.args.found.now _ c.requires.found (λ f r. r.there)

pub race_of-requires-clause-x : goal.race_of-requires-clause-x
race_of-requires-clause-x c = racing_calls (plan_of c.args.plan.now) c.args.x.name (event_of c.args.x.event) c.args.those.now c.loop-y.y-index c.loop-y-test.true c.requires.races

pub race_of-requires-clause-y : goal.race_of-requires-clause-y
race_of-requires-clause-y c =
    (between_calls (plan_of c.args.plan.now) (event_of c.args.x.event) _ c.args.x.name
    (c.requires.races c.loop-y.y-index _ (place_at c.args.those.now c.loop-y.y-index _ c.loop-y-test.true))).1

pub loop-y-preserved : goal.loop-y-preserved
loop-y-preserved c =
    let plan = plan_of c.args.plan.now in
    let name = c.args.x.name in
    let x = event_of c.args.x.event in
    let those = c.args.those.now in
    let n = c.loop-y.y-index in
    let race = c.requires.races n _ (place_at those n _ c.loop-y-test.true) in
    let told = subst (λ f. IsFindingAdded plan c.loop-y.found c.add.new.self f) c.race_of.ensures (c.in_ok-add.ensures.added plan) in
    subst (λ l. AddsFindings plan c.args.found.now c.add.new.self (IsNameRaceWith plan name x l)) (sym (map_more event_of those n _ c.loop-y-test.true))
    (one_more_race plan name x (map event_of (take n those)) _ c.args.found.now c.loop-y.found c.add.new.self c.loop-y.invariant race told)

pub returns : goal.returns
returns c =
    let plan = plan_of c.args.plan.now in
    let those = c.args.those.now in
    let all : take c.loop-y.y-index those ≡ those = take_all c.loop-y.y-index those (omega arith) in
    subst (λ l. AddsFindings plan c.args.found.now c.loop-y.found (IsNameRaceWith plan c.args.x.name (event_of c.args.x.event) (map event_of l))) all c.loop-y.invariant
