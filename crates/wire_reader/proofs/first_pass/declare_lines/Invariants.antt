use Rattle.std.proofs.Common.{◌<◌, ◌+◌, ◌^◌, length, Result}
use Rattle.wire_types.specs.declared.Fault.{Fault}
use Rattle.wire_reader.specs.FirstPass.{Declared, JudgesAll}
use Rattle.wire_reader.specs.Drafted.{declared_of}
use Rattle.wire_reader.specs.Left.{statements_left}
use Rattle.wire_reader.proofs.first_pass.declare_lines.Given as goal

abbrev pub invariant-statements : goal.invariant-statements
invariant-statements l = record {
  so_far : (r : Result Declared Fault) → JudgesAll (declared_of l.draft) (statements_left l.cursor) r → JudgesAll (declared_of l.initial.draft) (statements_left l.initial.cursor) r;
  room : l.cursor.line + length l.cursor.rest.now < 2 ^ 64;
}

abbrev pub decreases-statements : goal.decreases-statements
decreases-statements l = length (statements_left l.cursor)
