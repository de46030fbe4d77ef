use Rattle.std.proofs.Common.{◌≡◌, ◌||◌, ℕ, drop}
use Rattle.wire_pattern_waits.specs.LineSets.{has_line}
use Rattle.wire_pattern_waits.specs.Stops.{is_noted}
use Rattle.wire_pattern_waits.proofs.stops.note_stops.Given as goal

abbrev pub invariant-loop-stop : goal.invariant-loop-stop
invariant-loop-stop l =
    (role line : ℕ) → (has_line l.noted role line || is_noted (drop l.stop-index l.stops) role line)
    ≡ (has_line l.fn.noted role line || is_noted l.stops role line)
