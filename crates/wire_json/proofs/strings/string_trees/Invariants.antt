use Rattle.std.proofs.Common.{◌≡◌, ◌++◌, map, drop}
use Rattle.serde_json.specs.View.{view}
use Rattle.wire_types.specs.Texts.{lists_of}
use Rattle.wire_json.specs.Trees.{strings_data}
use Rattle.wire_json.proofs.strings.string_trees.Given as goal

-- the strings that are made, and those of the texts that are left, are all strings
abbrev pub invariant-loop-text : goal.invariant-loop-text
invariant-loop-text l = map view l.values.items ++ strings_data (lists_of (drop l.text-index l.texts)) ≡ strings_data (lists_of l.texts)
