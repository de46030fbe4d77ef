use Rattle.std.proofs.Common.{◌<◌, ◌+◌, ◌^◌, length, Result}
use Rattle.wire_types.specs.declared.Fault.{Fault}
use Rattle.wire_reader.specs.Left.{statements_left}
use Rattle.wire_pattern_script.specs.FirstPass.{Declared, JudgesAll}
use Rattle.wire_pattern_script.specs.Drafted.{declared_of}
use Rattle.wire_pattern_script.proofs.first_pass.declare_lines.Given as goal

abbrev pub invariant-statements : goal.invariant-statements
invariant-statements l = record {
  so_far : (r : Result Declared Fault) → JudgesAll (declared_of l.draft) l.last (statements_left l.cursor) r
      → JudgesAll (declared_of l.initial.draft) l.header (statements_left l.initial.cursor) r;
  room : l.cursor.line + length l.cursor.rest.now < 2 ^ 64;
  behind : l.last < l.cursor.line;
}

abbrev pub decreases-statements : goal.decreases-statements
decreases-statements l = length (statements_left l.cursor)
