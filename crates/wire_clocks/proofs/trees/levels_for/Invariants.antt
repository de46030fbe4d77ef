use Rattle.std.proofs.Common.{◌-◌, ◌≤◌, ◌<◌}
use Rattle.wire_clocks.proofs.trees.levels_for.Given as goal

abbrev pub invariant-loop-levels : goal.invariant-loop-levels
invariant-loop-levels l = (l.levels ≤ 8) × (0 < l.levels)

abbrev pub decreases-loop-levels : goal.decreases-loop-levels
decreases-loop-levels l = 8 - l.levels
