use Rattle.std.proofs.Common.{◌≡◌, ◌+◌, ◌≤◌, map, drop}
use Rattle.std.specs.Prelude.{count_by}
use Rattle.wire_pattern.specs.Views.{step_by}
use Rattle.wire_pattern_later.specs.Through.{is_through}
use Rattle.wire_pattern_later.proofs.through.count_in.Given as goal

abbrev pub invariant-loop-step : goal.invariant-loop-step
invariant-loop-step l =
    (l.count + count_by (is_through l.role) (map step_by (drop l.step-index l.steps)) ≡ count_by (is_through l.role) (map step_by l.steps))
    × (l.count ≤ l.step-index)
