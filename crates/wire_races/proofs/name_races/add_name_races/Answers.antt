use Rattle.std.proofs.Common.{length}
use Rattle.std.proofs.lemmas.Result.{on_ok_weaker}
use Rattle.wire_scripts.specs.Planned.{plan_of}
use Rattle.wire_races.specs.NameRaces.{IsRaceOn}
use Rattle.wire_races.proofs.Together.{all_found, names_and_sweeps}
use Rattle.wire_races.proofs.name_races.add_name_races.Goals as goal

pub add_sweep_races-requires : goal.add_sweep_races-requires
add_sweep_races-requires g c =
    let plan = plan_of c.args.marked.now in
    (c.in_ok-add_pieces.ensures plan c.requires.found (all_found plan (length c.args.marked.now.names) (IsRaceOn plan) c.in_ok-pieces.pieces.items c.in_ok-pieces.ensures)).found

pub returns-clause-found : goal.returns-clause-found
returns-clause-found g c = on_ok_weaker c.add_sweep_races.result (λ h. h.found) c.add_sweep_races.ensures

pub returns-clause-all : goal.returns-clause-all
returns-clause-all g c =
    let plan = plan_of c.args.marked.now in
    let pieces = c.in_ok-pieces.ensures in
    let sound = (rw c.plan.ensures at c.scripts.ensures).sound in
    let named = c.in_ok-add_pieces.ensures plan c.requires.found (all_found plan (length c.args.marked.now.names) (IsRaceOn plan) c.in_ok-pieces.pieces.items pieces) in
    on_ok_weaker c.add_sweep_races.result (λ h. names_and_sweeps c.args.marked.now sound c.in_ok-pieces.pieces.items c.args.found.now c.add_pieces.new.found c.add_sweep_races.new.found
    pieces named h) c.add_sweep_races.ensures
