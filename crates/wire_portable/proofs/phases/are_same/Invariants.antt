use Rattle.std.proofs.Common.{◌≡◌, ◌<◌, ℕ}
use Rattle.wire_portable.specs.Phases.{main_of}
use Rattle.wire_portable.proofs.phases.are_same.Given as goal

abbrev pub invariant-loop-number : goal.invariant-loop-number
invariant-loop-number l = (p : ℕ) → p < l.number → main_of l.sets p ≡ main_of l.sets 0
