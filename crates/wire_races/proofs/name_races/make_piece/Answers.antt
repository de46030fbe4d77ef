use Rattle.wire_scripts.specs.Planned.{plan_of}
use Rattle.wire_races.specs.NameRaces.{IsRaceOn}
use Rattle.wire_races.proofs.Swept.{both_sorts}
use Rattle.wire_races.proofs.Together.{piece_of}
use Rattle.wire_races.proofs.name_races.make_piece.Goals as goal

pub returns : goal.returns
returns c =
    let plan = plan_of c.args.marked.now in
    piece_of plan (IsRaceOn plan c.args.name) c.new-found.result c.add_races_swept.new.found c.new-found.ensures
    (both_sorts plan c.args.name c.new-found.result c.add_races_on.new.found c.add_races_swept.new.found c.in_ok-add_races_on.ensures c.in_ok-add_races_swept.ensures)
