use Rattle.std.proofs.Common.{◌+◌, ◌≤◌, arith}
use Rattle.wire_scripts.specs.Planned.{plan_of}
use Rattle.wire_races.specs.Adding.{ToldBetween}
use Rattle.wire_races.specs.KeyRaces.{IsKeyRaceBy}
use Rattle.wire_races.proofs.Deliveries.{race_within}
use Rattle.wire_races.proofs.Growing.{adds_same, one_beside}
use Rattle.wire_races.proofs.key_races.add_processes.Goals as goal

pub loop-number-preserved : goal.loop-number-preserved
loop-number-preserved c =
    let plan = plan_of c.args.marked.now in
    let from_there : c.args.from ≤ c.loop-number.number = omega arith in
    one_beside plan (IsKeyRaceBy plan) (race_within plan) c.args.found.now c.loop-number.found c.add_process.new.found c.args.from c.loop-number.number (c.loop-number.number + 1) (omega arith) from_there
    c.loop-number.invariant c.in_ok-add_process.ensures

pub returns : goal.returns
returns c =
    let plan = plan_of c.args.marked.now in
    let over = c.loop-number-test.false in
    adds_same plan c.args.found.now c.loop-number.found (ToldBetween (IsKeyRaceBy plan) c.args.from c.loop-number.number) (ToldBetween (IsKeyRaceBy plan) c.args.from c.args.end)
    (λ f t. let low = t.2 in let lt = t.3 in (t.0, t.1, low, omega (arith, low, lt, over)))
    (λ f t. let low = t.2 in let lt = t.3 in (t.0, t.1, low, omega (arith, low, lt, over)))
    c.loop-number.invariant
