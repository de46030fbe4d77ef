use Rattle.std.proofs.Common.{◌≡◌, ◌++◌, drop}
use Rattle.wire_pattern_waits.specs.Stops.{process_stops}
use Rattle.wire_pattern_waits.proofs.stops.add_stops.Given as goal

abbrev pub invariant-loop-number : goal.invariant-loop-number
invariant-loop-number l =
    l.out.items ++ process_stops l.role (drop l.number l.row) (drop l.number l.places) ≡ l.fn.out.items ++ process_stops l.role l.row l.places
