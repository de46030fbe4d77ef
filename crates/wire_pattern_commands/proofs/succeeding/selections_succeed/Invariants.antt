use Rattle.std.proofs.Common.{true}
use Rattle.wire_pattern_waits.proofs.Judged.{EachBefore}
use Rattle.wire_pattern_commands.specs.Succeeding.{IsSelectionTold}
use Rattle.wire_pattern_commands.proofs.succeeding.selections_succeed.Given as goal

abbrev pub invariant-loop-selection : goal.invariant-loop-selection
invariant-loop-selection l = EachBefore l.pattern (λ s. IsSelectionTold l.pattern s true) l.selection-index
