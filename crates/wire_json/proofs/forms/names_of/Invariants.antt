use Rattle.std.proofs.Common.{◌≡◌, ◌++◌, map, drop}
use Rattle.wire_types.specs.Texts.{lists_of}
use Rattle.wire_scripts.specs.Scripts.{numbers_of}
use Rattle.wire_words.specs.Words.{name_of}
use Rattle.wire_json.proofs.forms.names_of.Given as goal

-- the names that are made, and those of the processes that are left, are all names
abbrev pub invariant-loop-proc : goal.invariant-loop-proc
invariant-loop-proc l = lists_of l.names.items ++ map (name_of l.scripts) (numbers_of (drop l.proc-index l.order)) ≡ map (name_of l.scripts) (numbers_of l.order)
