use Rattle.std.proofs.Common.{◌≤◌, length, vec_capacity}
use Rattle.wire_rounds.proofs.Rows.{RowSoFar}
use Rattle.wire_rounds.proofs.deques.cut_permits.Given as goal

abbrev pub invariant-loop-i : goal.invariant-loop-i
invariant-loop-i l =
    RowSoFar l.initial.passes.items l.passes.items l.permits.items l.i × (length l.initial.passes.items ≤ vec_capacity l.permits)
