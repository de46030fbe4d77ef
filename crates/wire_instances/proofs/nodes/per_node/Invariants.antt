use Rattle.std.proofs.Common.{◌≡◌, ◌/◌, map}
use Rattle.std.specs.List.{range_with_len}
use Rattle.wire_instances.proofs.nodes.per_node.Given as goal

abbrev pub invariant-loop-process : goal.invariant-loop-process
invariant-loop-process l = l.of.items ≡ map (λ p. p / l.each) (range_with_len 0 l.process)
