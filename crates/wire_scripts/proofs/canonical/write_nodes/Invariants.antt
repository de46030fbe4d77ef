use Rattle.std.proofs.Common.{◌≡◌, ◌++◌, map, drop, flat_map}
use Rattle.wire_types.specs.Said as said
use Rattle.wire_scripts.specs.Canonical.{line_text}
use Rattle.wire_scripts.proofs.canonical.write_nodes.Given as goal

abbrev pub invariant-loop-node : goal.invariant-loop-node
invariant-loop-node l = l.out.items ++ flat_map line_text (map (λ n. said.Node n) (drop l.node l.scripts.nodes)) ≡ l.fn.out.items ++ flat_map line_text (map (λ n. said.Node n) l.scripts.nodes)
