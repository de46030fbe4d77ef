use Rattle.std.proofs.Common.{map}
use Rattle.std.proofs.lemmas.Result.{on_ok_weaker}
use Rattle.wire_runs.specs.Plan.{event_of}
use Rattle.wire_scripts.specs.Planned.{plan_of}
use Rattle.wire_races.proofs.Growing.{adds_same}
use Rattle.wire_races.proofs.NameRaces.{all_race, with_all, with_those}
use Rattle.wire_races.proofs.name_races.add_between.Goals as goal

pub find_unordered-those-requires-clause-rising : goal.find_unordered-those-requires-clause-rising
find_unordered-those-requires-clause-rising c = c.requires.rivals.calls_on.rising

pub add_races-requires-clause-found : goal.add_races-requires-clause-found
add_races-requires-clause-found c = rw c.plan.ensures c.requires.found

pub add_races-requires-clause-races : goal.add_races-requires-clause-races
add_races-requires-clause-races c = rw c.plan.ensures (
    all_race (plan_of c.args.marked.now) c.args.x.name (event_of c.args.x.event) (map event_of c.args.run.now) (map event_of c.find_unordered-those.result.now)
    c.find_unordered-those.ensures c.requires.x c.requires.rivals)

pub returns : goal.returns
returns c =
    let plan = plan_of c.args.marked.now in
    let name = c.args.x.name in
    let x = event_of c.args.x.event in
    let run = map event_of c.args.run.now in
    let those = map event_of c.find_unordered-those.result.now in
    on_ok_weaker c.add_races.result (λ h. adds_same plan c.args.found.now c.add_races.new.found _ _
    (with_all plan name x run those c.find_unordered-those.ensures) (with_those plan name x run those c.find_unordered-those.ensures) h) (rw c.plan.ensures at c.add_races.ensures)
