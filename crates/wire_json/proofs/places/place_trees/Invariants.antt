use Rattle.std.proofs.Common.{◌≡◌, ◌++◌, map, drop}
use Rattle.serde_json.specs.View.{view}
use Rattle.wire_json.specs.ChainTrees.{place_data}
use Rattle.wire_json.proofs.places.place_trees.Given as goal

-- the trees that are made, and those of the calls that are left, are all trees
abbrev pub invariant-loop-call : goal.invariant-loop-call
invariant-loop-call l = map view l.values.items ++ map (place_data l.scripts) (drop l.call-index l.calls) ≡ map (place_data l.scripts) l.calls
