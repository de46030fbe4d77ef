use Rattle.std.proofs.Common.{◌≡◌, drop}
use Rattle.std.specs.List.{list_any}
use Rattle.wire_pattern_waits.specs.Stops.{ends_waiting}
use Rattle.wire_pattern_waits.proofs.stops.is_stopped.Given as goal

abbrev pub invariant-loop-end : goal.invariant-loop-end
invariant-loop-end l = list_any ends_waiting (drop l.end-index l.row) ≡ list_any ends_waiting l.row
