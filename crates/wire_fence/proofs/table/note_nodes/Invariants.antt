use Rattle.std.proofs.Common.{◌≡◌, ℕ, take, ◌||◌, ◌&&◌, ◌==◌}
use Rattle.wire_runs.specs.Fences.{has_node}
use Rattle.wire_scripts.specs.Scripts.{Scripts, numbers_of}
use Rattle.wire_scripts.specs.Planned.{plan_of}
use Rattle.wire_procmap.specs.Map.{map_of}
use Rattle.wire_fence.specs.FenceTable.{is_noted}
use Rattle.wire_fence.proofs.table.note_nodes.Given as goal

abbrev pub invariant-loop-member : goal.invariant-loop-member
invariant-loop-member l = (s : Scripts) (other node : ℕ) → l.map ≡ map_of s →
    is_noted l.reached.keys other node ≡ (is_noted l.fn.reached.keys other node || ((other == l.set) && has_node (plan_of s) (take l.member-index (numbers_of l.members)) node))
