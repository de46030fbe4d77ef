use Rattle.std.proofs.Common.{refl}
use Rattle.std.proofs.lemmas.Result.{on_ok_weaker}
use Rattle.wire_runs.specs.Plan.{event_of}
use Rattle.wire_scripts.specs.Planned.{plan_of}
use Rattle.wire_anywhere.proofs.Races.{adds_race}
use Rattle.wire_anywhere.proofs.racing_pairs.add_race.Goals as goal

pub returns : goal.returns
returns c =
    on_ok_weaker c.push.result (λ is. adds_race (plan_of c.args.plan.now) c.args.found.now c.push.new.self (event_of c.args.source) (event_of c.args.asked.get_now) c.args.asked.owner.number
    c.args.asked.key c.args.other.number _ c.pair_of.result is refl c.race_of.ensures c.pair_of.ensures) c.push.ensures
