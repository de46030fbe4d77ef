use Rattle.std.proofs.Common.{◌≡◌, ◌++◌, ◌-◌, flat_map}
use Rattle.wire_scripts.specs.Canonical.{line_text}
use Rattle.wire_pattern.specs.Instances.{nodes_said}
use Rattle.wire_instances.proofs.text.write_nodes.Given as goal

abbrev pub invariant-loop-node : goal.invariant-loop-node
invariant-loop-node l = l.out.items ++ flat_map line_text (nodes_said l.node (l.count - l.node)) ≡ l.fn.out.items ++ flat_map line_text (nodes_said 0 l.count)
