use Rattle.std.proofs.Common.{◌≡◌, map, take}
use Rattle.wire_pattern_script.specs.Numbers.{who_of}
use Rattle.wire_pattern.specs.Views.{who_by}
use Rattle.wire_pattern_lines.specs.Views.{proc_by}
use Rattle.wire_pattern_script.specs.Drafted.{declared_of}
use Rattle.wire_pattern_script.proofs.numbers.whos_of.Given as goal

abbrev pub invariant-loop-proc : goal.invariant-loop-proc
invariant-loop-proc l = record {
  so_far : map who_by l.whos.items ≡ map (who_of (declared_of l.draft)) (map proc_by (take l.proc-index l.procs));
}
