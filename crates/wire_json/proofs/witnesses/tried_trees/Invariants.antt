use Rattle.std.proofs.Common.{◌≡◌, ◌++◌, map}
use Rattle.std.specs.Iterator.Adapters.{zip_first, zip_second}
use Rattle.std.specs.Slice.Iter.{iter_rest}
use Rattle.serde_json.specs.View.{view}
use Rattle.wire_types.specs.Texts.{lists_of}
use Rattle.wire_json.specs.WitnessTrees.{tried_data}
use Rattle.wire_json.proofs.witnesses.tried_trees.Given as goal

-- the trees that are made, and those of the races that are left, are all trees
abbrev pub invariant-loop-words : goal.invariant-loop-words
invariant-loop-words l =
    map view l.values.items ++ tried_data l.scripts (lists_of (iter_rest (zip_first l.words-iterator))) (iter_rest (zip_second l.words-iterator))
    ≡ tried_data l.scripts (lists_of l.findings) l.shown
