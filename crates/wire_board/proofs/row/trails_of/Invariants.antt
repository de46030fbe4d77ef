use Rattle.std.proofs.Common.{◌≡◌, ◌+◌, ◌≤◌, vec_len}
use Rattle.std.specs.Prelude.{vec_capacity}
use Rattle.wire_scripts.specs.Planned.{plan_of}
use Rattle.wire_board.proofs.Told.{Taking}
use Rattle.wire_board.proofs.row.trails_of.Given as goal

abbrev pub invariant-lanes : goal.invariant-lanes
invariant-lanes l = Taking (plan_of l.settled) l.fn.lanes.items l.lanes.items l.trails.items × (vec_len l.trails + vec_len l.lanes ≡ l.count) × (l.count ≤ vec_capacity l.trails)

abbrev pub decreases-lanes : goal.decreases-lanes
decreases-lanes l = vec_len l.lanes
