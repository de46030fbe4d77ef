use Rattle.std.proofs.Common.{◌≡◌, ◌++◌, map}
use Rattle.std.specs.Iterator.Adapters.{zip_first, zip_second}
use Rattle.std.specs.Slice.Iter.{iter_rest}
use Rattle.serde_json.specs.View.{view}
use Rattle.wire_json.specs.Trees.{calls_data}
use Rattle.wire_json.proofs.trees.call_trees.Given as goal

-- the trees that are made, and those of the calls that are left, are all trees
abbrev pub invariant-loop-call : goal.invariant-loop-call
invariant-loop-call l =
    map view l.values.items ++ calls_data l.scripts (iter_rest (zip_first l.call-iterator)) (iter_rest (zip_second l.call-iterator))
    ≡ calls_data l.scripts l.process.calls l.ends
