use Rattle.std.proofs.Common.{◌≡◌, ◌↔◌, ℕ, true}
use Rattle.wire_cutoff_laws.specs.Promised.{IsSettledForAll}
use Rattle.wire_pattern_waits.specs.LineSets.{has_line}
use Rattle.wire_pattern_waits.specs.Waits.{StopsIn, ReadsAsPlan}
use Rattle.wire_pattern_waits.proofs.Judged.{IsBefore, EachBefore}
use Rattle.wire_pattern_answers.specs.Answers.{AnswersIn}
use Rattle.wire_pattern_answers.specs.Notes.{AreTold}
use Rattle.wire_pattern_stages.specs.Views.{stages_by}
use Rattle.wire_pattern_stages.specs.Staged.{SelectionKeeps}
use Rattle.wire_pattern_stages.specs.Lookups.{SelectionWaitsForOne}
use Rattle.wire_pattern_stages.specs.Succeeding.{FailsIn, PutsRemoteIn}
use Rattle.wire_pattern_stages.proofs.cutoff.see_all.Given as goal

abbrev pub invariant-loop-selection : goal.invariant-loop-selection
invariant-loop-selection l = record {
  told : (role line : ℕ) → (has_line l.noted role line ≡ true)
      ↔ IsBefore l.question.pattern.now (λ s. StopsIn l.question.pattern.now s role line) l.selection-index;
  read : EachBefore l.question.pattern.now (ReadsAsPlan l.question.pattern.now) l.selection-index;
  kept : l.kept ≡ true → EachBefore l.question.pattern.now (SelectionKeeps l.question.pattern.now (stages_by l.question.stages.now)) l.selection-index;
  for_one : (l.for_one ≡ true) ↔ EachBefore l.question.pattern.now (SelectionWaitsForOne l.question.pattern.now) l.selection-index;
  failing : (l.failing ≡ true) ↔ IsBefore l.question.pattern.now (FailsIn l.question.pattern.now) l.selection-index;
  answers : l.question.answers ≡ true → IsSettledForAll l.question.pattern.now
      → AreTold l.told (λ role line status. IsBefore l.question.pattern.now (λ s. AnswersIn l.question.pattern.now s role line status) l.selection-index);
  remote : (l.remote ≡ true) ↔ IsBefore l.question.pattern.now (PutsRemoteIn l.question.pattern.now) l.selection-index;
}
