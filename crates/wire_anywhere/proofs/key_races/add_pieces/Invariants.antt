use Rattle.std.proofs.Common.{◌≡◌, ◌++◌, length}
use Rattle.std.specs.Vec.Iter.{into_iter_items, into_iter_len}
use Rattle.wire_runs.specs.Plan.{Plan}
use Rattle.wire_anywhere.specs.Adding.{AddsPlacementFindings, IsInSome}
use Rattle.wire_anywhere.proofs.key_races.add_pieces.Given as goal

abbrev pub invariant-loop-piece : goal.invariant-loop-piece
invariant-loop-piece l =
    (l.yielded ++ into_iter_items l.piece-iterator ≡ into_iter_items l.initial.piece-iterator)
    × (into_iter_len l.piece-iterator ≡ length (into_iter_items l.piece-iterator))
    × ((plan : Plan) → AddsPlacementFindings plan l.initial.found l.found (IsInSome plan l.yielded))
