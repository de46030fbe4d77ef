use Rattle.std.proofs.Common.{List, length}
use Rattle.wire_reader.specs.Statements.{Statement}
use Rattle.wire_reader.specs.FirstPass.{Declared}
use Rattle.wire_reader.specs.Pieces.{HasRoom}
use Rattle.wire_reader.specs.Ahead.{IsProgress}
use Rattle.wire_reader.proofs.shared_pass.declare_left.Given as goal

abbrev pub invariant-groups : goal.invariant-groups
invariant-groups g l = record {
  so_far : (start : Declared) (lines : List Statement) → IsProgress start lines l.initial.progress → IsProgress start lines l.progress;
  room : HasRoom l.progress.left;
}

abbrev pub decreases-groups : goal.decreases-groups
decreases-groups g l = length l.progress.left.rest.now
