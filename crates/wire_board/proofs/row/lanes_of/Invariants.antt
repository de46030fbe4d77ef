use Rattle.std.proofs.Common.{◌≡◌, ◌+◌, ◌≤◌, ◌++◌, All, map, vec_len}
use mathlib.Core.List.{reverse}
use Rattle.std.specs.Prelude.{vec_capacity}
use Rattle.wire_board.specs.Lanes.{new_lane}
use Rattle.wire_board.proofs.Opening.{IsNew}
use Rattle.wire_board.proofs.row.lanes_of.Given as goal

abbrev pub invariant-seats : goal.invariant-seats
invariant-seats l =
    All (IsNew l.board) l.seats.items
    × (map new_lane l.seats.items ++ reverse l.lanes.items ≡ map new_lane l.fn.seats.items)
    × (vec_len l.lanes + vec_len l.seats ≡ vec_len l.fn.seats) × (vec_len l.fn.seats ≤ vec_capacity l.lanes)

abbrev pub decreases-seats : goal.decreases-seats
decreases-seats l = vec_len l.seats
