use Rattle.std.proofs.Common.{◌∙◌, map, sym, eqb-true}
use Rattle.std.proofs.lemmas.Bool.{true≢false}
use Rattle.std.proofs.lemmas.Result.{on_ok_weaker}
use Rattle.wire_runs.specs.Plan.{event_of}
use Rattle.wire_scripts.specs.Planned.{plan_of}
use Rattle.wire_races.proofs.Growing.{adds_none, adds_same}
use Rattle.wire_races.proofs.SweepRaces.{sweep_live, swept_stretch, all_race_on, with_sweeps, on_one, none_on, nothing_in}
use Rattle.wire_races.proofs.sweep_races.add_sweep.Goals as goal

pub returns-then-not-live : goal.returns-then-not-live
returns-then-not-live c =
    let plan = plan_of c.args.marked.now in
    let x = event_of c.args.x in
    adds_none plan c.args.found.now _ c.requires.found (λ f r. true≢false (sym (c.live.ensures.1 (sweep_live plan x c.args.shares.now f r)) ∙ c.if-not-live.true))

pub find_unordered-those-requires-clause-live : goal.find_unordered-those-requires-clause-live
find_unordered-those-requires-clause-live c = c.live.ensures.0 c.if-not-live.false

pub find_unordered-those-requires-clause-rising : goal.find_unordered-those-requires-clause-rising
find_unordered-those-requires-clause-rising c = (rw c.plan-plan.ensures at c.sweeps.ensures).rising

pub find_unordered-those-requires-clause-run : goal.find_unordered-those-requires-clause-run
find_unordered-those-requires-clause-run c = swept_stretch (plan_of c.args.marked.now) c.args.higher.number (map event_of c.sweeps.result.now) (rw c.plan-plan.ensures at c.sweeps.ensures)

pub returns-then-is_empty : goal.returns-then-is_empty
returns-then-is_empty c =
    let plan = plan_of c.args.marked.now in
    let x = event_of c.args.x in
    let run = map event_of c.sweeps.result.now in
    let those = c.find_unordered-those.result.now in
    let sweeps = (rw c.plan-plan.ensures at c.sweeps.ensures) in
    adds_none plan c.args.found.now _ c.requires.found (none_on plan x c.args.higher.number run (map event_of those) c.args.shares.now sweeps c.requires.shared c.requires.of_it
    c.find_unordered-those.ensures (nothing_in those (eqb-true _ _ (sym c.is_empty.ensures ∙ c.if-is_empty.true))))

pub add_on_names-requires-clause-found : goal.add_on_names-requires-clause-found
add_on_names-requires-clause-found c = rw c.plan-plan.ensures c.requires.found

pub add_on_names-requires-clause-races : goal.add_on_names-requires-clause-races
add_on_names-requires-clause-races c =
    let plan = plan_of c.args.marked.now in
    let x = event_of c.args.x in
    let run = map event_of c.sweeps.result.now in
    let those = map event_of c.find_unordered-those.result.now in
    let sweeps = (rw c.plan-plan.ensures at c.sweeps.ensures) in
    rw c.plan-plan.ensures (all_race_on plan x c.args.higher.number run those c.args.shares.now sweeps c.requires.shared c.requires.of_it c.find_unordered-those.ensures c.requires.sweeps)

pub returns : goal.returns
returns c =
    let plan = plan_of c.args.marked.now in
    let x = event_of c.args.x in
    let q = c.args.higher.number in
    let shares = c.args.shares.now in
    let run = map event_of c.sweeps.result.now in
    let those = map event_of c.find_unordered-those.result.now in
    let are = c.find_unordered-those.ensures in
    let sweeps = (rw c.plan-plan.ensures at c.sweeps.ensures) in
    on_ok_weaker c.add_on_names.result (λ h. adds_same plan c.args.found.now c.add_on_names.new.found _ _ (with_sweeps plan x q run those shares sweeps c.requires.shared c.requires.of_it are)
    (on_one plan x q run those shares sweeps c.requires.shared c.requires.of_it are) h) (rw c.plan-plan.ensures at c.add_on_names.ensures)
