use Rattle.std.proofs.Common.{◌≡◌, ℕ, ◌&&◌, nat_lt}
use Rattle.wire_runs.specs.Fences.{has_node}
use Rattle.wire_scripts.specs.Scripts.{Scripts, set_at}
use Rattle.wire_scripts.specs.Planned.{plan_of}
use Rattle.wire_procmap.specs.Map.{map_of}
use Rattle.wire_fence.specs.FenceTable.{is_noted}
use Rattle.wire_fence.proofs.table.nodes_of_sets.Given as goal

abbrev pub invariant-loop-set : goal.invariant-loop-set
invariant-loop-set l = (s : Scripts) (k node : ℕ) → l.map ≡ map_of s → is_noted l.reached.keys k node ≡ (nat_lt k l.set && has_node (plan_of s) (set_at l.sets k) node)
