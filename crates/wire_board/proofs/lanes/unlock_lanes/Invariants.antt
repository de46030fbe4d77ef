use Rattle.std.proofs.Common.{◌≡◌, ◌+◌, ◌≤◌, vec_len}
use Rattle.std.specs.Prelude.{vec_capacity}
use Rattle.std.specs.List.{All}
use Rattle.wire_board.specs.Lanes.{IsTrail}
use Rattle.wire_board.proofs.lanes.unlock_lanes.Given as goal

abbrev pub invariant-locks : goal.invariant-locks
invariant-locks l = record {
  count : vec_len l.lanes + vec_len l.locked ≡ vec_len l.fn.locked;
  room : vec_len l.fn.locked ≤ vec_capacity l.lanes;
  keep : All IsTrail l.lanes.items;
}

abbrev pub decreases-locks : goal.decreases-locks
decreases-locks l = vec_len l.locked
