use Rattle.wire_scripts.specs.Planned.{plan_of}
use Rattle.wire_races.specs.Adding.{ToldBetween}
use Rattle.wire_races.specs.KeyRaces.{IsKeyRaceBy, IsKeyRaceIn}
use Rattle.wire_races.proofs.Deliveries.{race_below}
use Rattle.wire_races.proofs.Growing.{adds_same}
use Rattle.wire_races.proofs.Together.{piece_of}
use Rattle.wire_races.proofs.key_races.make_piece.Goals as goal

pub returns : goal.returns
returns c =
    let plan = plan_of c.args.marked.now in
    let those = IsKeyRaceIn plan c.args.size c.args.piece in
    let count = rw c.plan.ensures at c.process_count.ensures in
    let tells = rw count at c.processes_of-from.ensures.these in
    let from = c.processes_of-from.result.0 in
    let end = c.processes_of-from.result.1 in
    piece_of plan those c.new-found.result c.add_processes.new.found c.new-found.ensures
    (adds_same plan c.new-found.result c.add_processes.new.found (ToldBetween (IsKeyRaceBy plan) from end) those
    (λ f t. (t.0, t.1, (tells t.0.proc (race_below plan t.0 f t.1)).0 (t.2, t.3)))
    (λ f t. let r = (tells t.0.proc (race_below plan t.0 f t.1)).1 t.2 in (t.0, t.1, r.0, r.1))
    c.in_ok-add_processes.ensures)
