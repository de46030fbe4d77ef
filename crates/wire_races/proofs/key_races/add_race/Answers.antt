use Rattle.std.proofs.lemmas.Result.{on_ok_weaker}
use Rattle.wire_runs.specs.Plan.{event_of}
use Rattle.wire_scripts.specs.Planned.{plan_of}
use Rattle.wire_races.proofs.KeyRaces.{adds_race}
use Rattle.wire_races.proofs.key_races.add_race.Goals as goal

pub returns : goal.returns
returns c =
    on_ok_weaker c.add.result (λ told. adds_race (plan_of c.args.plan.now) c.args.found.now c.add.new.self (event_of c.args.source) (event_of c.args.asked.get_now) c.args.asked.owner.number
    c.args.asked.key _ c.requires.race c.race_of.ensures c.requires.found (told (plan_of c.args.plan.now))) c.add.ensures.added
