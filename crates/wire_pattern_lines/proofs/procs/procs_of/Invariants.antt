use Rattle.std.proofs.Common.{◌≡◌, map, take, true}
use Rattle.std.specs.List.{list_all}
use Rattle.wire_types.specs.Texts.{texts_of}
use Rattle.wire_pattern_lines.specs.Said.{spelled_proc, is_lawful_proc}
use Rattle.wire_pattern_lines.specs.Views.{proc_by}
use Rattle.wire_pattern_lines.proofs.procs.procs_of.Given as goal

abbrev pub invariant-loop-part : goal.invariant-loop-part
invariant-loop-part l = record {
  spelt : map spelled_proc (map proc_by l.procs.items) ≡ texts_of (take l.part-index l.parts);
  lawful : list_all is_lawful_proc (map proc_by l.procs.items) ≡ true;
}
