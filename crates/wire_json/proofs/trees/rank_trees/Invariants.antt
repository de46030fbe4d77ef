use Rattle.std.proofs.Common.{◌≡◌, ◌++◌, map}
use Rattle.std.specs.Iterator.Adapters.{zip_first, zip_second}
use Rattle.std.specs.Slice.Iter.{iter_rest}
use Rattle.serde_json.specs.View.{view}
use Rattle.wire_types.specs.Texts.{lists_of}
use Rattle.wire_json.specs.Trees.{ranks_data}
use Rattle.wire_json.proofs.trees.rank_trees.Given as goal

-- the trees that are made, and those of the processes that are left, are all trees
abbrev pub invariant-loop-process : goal.invariant-loop-process
invariant-loop-process l =
    map view l.values.items ++ ranks_data l.scripts (iter_rest (zip_first l.process-iterator)) (lists_of (iter_rest (zip_second l.process-iterator)))
    ≡ ranks_data l.scripts l.scripts.processes (lists_of l.rows)
