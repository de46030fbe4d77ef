use Rattle.wire_scripts.specs.Planned.{plan_of}
use Rattle.wire_anywhere.specs.Races.{IsShownOf}
use Rattle.wire_anywhere.proofs.Pieces.{piece_of}
use Rattle.wire_anywhere.proofs.key_races.make_piece.Goals as goal

pub returns : goal.returns
returns c =
    let plan = plan_of c.args.marked.now in
    piece_of plan (IsShownOf plan c.args.proc.number) c.empty-found.result c.add_process.new.found c.empty-found.ensures c.in_ok-add_process.ensures
