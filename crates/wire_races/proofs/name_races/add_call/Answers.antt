use Rattle.std.proofs.Common.{◌∙◌, map, sym}
use Rattle.std.proofs.lemmas.Bool.{true≢false}
use Rattle.std.proofs.lemmas.Result.{on_ok_weaker}
use Rattle.wire_runs.specs.Plan.{event_of}
use Rattle.wire_scripts.specs.Planned.{plan_of}
use Rattle.wire_races.specs.NameRaces.{IsRaceFrom, IsNameRaceWith}
use Rattle.wire_races.proofs.Growing.{adds_none, adds_same}
use Rattle.wire_races.proofs.NameRaces.{from_with, with_from, from_live}
use Rattle.wire_races.proofs.name_races.add_call.Goals as goal

pub returns-then-live : goal.returns-then-live
returns-then-live c =
    let plan = plan_of c.args.marked.now in
    let name = c.args.x.name in
    let x = event_of c.args.x.event in
    let rivals = map event_of c.args.rivals.now in
    on_ok_weaker c.add_rivals.result (λ h. adds_same plan c.args.found.now c.add_rivals.new.found (IsNameRaceWith plan name x rivals) (IsRaceFrom plan name x)
    (from_with plan name x rivals c.requires.higher) (with_from plan name x rivals c.requires.all) h) c.add_rivals.ensures

pub returns-else-live : goal.returns-else-live
returns-else-live c =
    let plan = plan_of c.args.marked.now in
    let x = event_of c.args.x.event in
    adds_none plan c.args.found.now (IsRaceFrom plan c.args.x.name x) c.requires.found
    (λ f r. true≢false (sym (c.live.ensures.1 (from_live plan c.args.x.name x f r)) ∙ c.if-live.false))
