use Rattle.std.proofs.Common.{◌≡◌, ◌≤◌, ◌<◌, ℕ, length, drop}
use Rattle.std.specs.Prelude.{slice_index_or}
use Rattle.wire_pattern.specs.Instances.{cast_of, node_line}
use Rattle.wire_instances.proofs.numbers.node_lines.Given as goal

abbrev pub invariant-processes : goal.invariant-processes
invariant-processes l = record {
  left : l.process ≤ length l.nodes.of.items;
  count : length l.lines.items ≡ l.frame.cast.node_count;
  lines : (n : ℕ) → n < l.frame.cast.node_count → slice_index_or l.lines.items n 0
      ≡ node_line l.frame.pattern n (drop l.process (cast_of l.frame.cast).roles) (drop l.process l.nodes.of.items);
}

abbrev pub decreases-processes : goal.decreases-processes
decreases-processes l = l.process
