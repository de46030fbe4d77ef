use Rattle.std.proofs.Common.{◌≡◌, ◌+◌, ◌≤◌, vec_len}
use Rattle.std.specs.Prelude.{vec_capacity}
use Rattle.wire_board.proofs.lanes.lock_lanes.Given as goal

abbrev pub invariant-lanes : goal.invariant-lanes
invariant-lanes l = (vec_len l.locked + vec_len l.lanes ≡ vec_len l.fn.lanes) × (vec_len l.fn.lanes ≤ vec_capacity l.locked)

abbrev pub decreases-lanes : goal.decreases-lanes
decreases-lanes l = vec_len l.lanes
