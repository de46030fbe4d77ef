use Rattle.std.proofs.Common.{◌≡◌, ◌≤◌}
use Rattle.wire_clocks.specs.Rows.{tree_says}
use Rattle.wire_clocks.proofs.rows.number.Given as goal

abbrev pub invariant-down : goal.invariant-down
invariant-down l = record {
  low : l.level ≤ l.levels;
  same : tree_says l.rows l.level l.row l.rest ≡ tree_says l.rows l.levels l.root l.process;
}

abbrev pub decreases-down : goal.decreases-down
decreases-down l = l.level
