use Rattle.std.proofs.lemmas.Result.{on_ok_weaker}
use Rattle.wire_scripts.specs.Planned.{plan_of}
use Rattle.wire_races.specs.KeyRaces.{IsKeyRaceIn}
use Rattle.wire_races.proofs.Together.{all_found, key_pieces_added}
use Rattle.wire_races.proofs.key_races.add_key_races.Goals as goal

pub returns-clause-found : goal.returns-clause-found
returns-clause-found g c =
    let plan = plan_of c.args.marked.now in
    on_ok_weaker c.add_pieces.result (λ h. (h plan c.requires.found (all_found plan c.in_ok-pieces.ensures.count (IsKeyRaceIn plan c.in_ok-pieces.ensures.size) c.in_ok-pieces.pieces.items c.in_ok-pieces.ensures.are)).found)
    c.add_pieces.ensures

pub returns-clause-all : goal.returns-clause-all
returns-clause-all g c =
    let plan = plan_of c.args.marked.now in
    let pieces = c.in_ok-pieces.ensures in
    on_ok_weaker c.add_pieces.result (λ h. key_pieces_added plan c.in_ok-pieces.pieces.items c.args.found.now c.add_pieces.new.found pieces
    (h plan c.requires.found (all_found plan pieces.count (IsKeyRaceIn plan pieces.size) c.in_ok-pieces.pieces.items pieces.are))) c.add_pieces.ensures
