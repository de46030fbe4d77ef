use Rattle.std.proofs.Common.{◌≡◌, map, take, sym, subst, arith}
use Rattle.std.proofs.lemmas.List.{take_more, take_all}
use Rattle.std.proofs.lemmas.List.Elements.{Contains-get_or}
use Rattle.wire_runs.specs.Plan.{event_of}
use Rattle.wire_scripts.specs.Planned.{plan_of}
use Rattle.wire_races.specs.Adding.{AddsFindings}
use Rattle.wire_races.specs.SweepRaces.{IsRaceOnOne}
use Rattle.wire_races.proofs.Growing.{adds_none}
use Rattle.wire_races.proofs.SweepRaces.{none_on_none, one_name_more}
use Rattle.wire_races.proofs.sweep_races.add_on_names.Goals as goal

pub loop-share-init : goal.loop-share-init
loop-share-init c = adds_none (plan_of c.args.plan.now) c.args.found.now _ c.requires.found (none_on_none (plan_of c.args.plan.now) (event_of c.args.x) (map event_of c.args.those.now))

pub add_races-requires-clause-races : goal.add_races-requires-clause-races
add_races-requires-clause-races c = c.requires.races _ (Contains-get_or c.args.shares.now c.loop-share.share-index _ c.loop-share-test.true)

pub loop-share-preserved : goal.loop-share-preserved
loop-share-preserved c =
    let plan = plan_of c.args.plan.now in
    let x = event_of c.args.x in
    let those = map event_of c.args.those.now in
    let shares = c.args.shares.now in
    let n = c.loop-share.share-index in
    subst (λ l. AddsFindings plan c.args.found.now c.add_races.new.found (IsRaceOnOne plan x those l)) (sym (take_more shares n _ c.loop-share-test.true))
    (one_name_more plan x those (take n shares) _ c.args.found.now c.loop-share.found c.add_races.new.found c.loop-share.invariant c.in_ok-add_races.ensures)

pub returns : goal.returns
returns c =
    let plan = plan_of c.args.plan.now in
    let shares = c.args.shares.now in
    let all : take c.loop-share.share-index shares ≡ shares = take_all c.loop-share.share-index shares (omega arith) in
    subst (λ l. AddsFindings plan c.args.found.now c.loop-share.found (IsRaceOnOne plan (event_of c.args.x) (map event_of c.args.those.now) l)) all c.loop-share.invariant
