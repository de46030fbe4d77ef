use Rattle.std.proofs.Common.{◌≡◌, ◌++◌, length}
use Rattle.std.specs.Vec.Iter.{into_iter_items, into_iter_len}
use Rattle.wire_runs.specs.Plan.{Plan}
use Rattle.wire_findings.specs.Collected.{AreFound}
use Rattle.wire_races.specs.Adding.{AddsFindings}
use Rattle.wire_races.specs.Pieces.{IsInSome, AreAllFound}
use Rattle.wire_races.proofs.search_pieces.add_pieces.Given as goal

abbrev pub invariant-loop-piece : goal.invariant-loop-piece
invariant-loop-piece l =
    (l.yielded ++ into_iter_items l.piece-iterator ≡ into_iter_items l.initial.piece-iterator)
    × (into_iter_len l.piece-iterator ≡ length (into_iter_items l.piece-iterator))
    × ((plan : Plan) → AreFound plan l.initial.found → AreAllFound plan (into_iter_items l.initial.piece-iterator) → AddsFindings plan l.initial.found l.found (IsInSome plan l.yielded))
