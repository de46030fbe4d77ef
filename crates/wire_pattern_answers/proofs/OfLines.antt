-- What is told of the get-now lines of a pattern are their answers.
use Rattle.std.proofs.Common.{◌≡◌, ◌≢◌, ◌∙◌, ap, sym, subst, refl, ℕ, List, [], ◌∷◌, map, Some, inl, inr}
use Rattle.std.specs.Prelude.{slice_get}
use Rattle.wire_types.specs.declared.Status.{Status}
use Rattle.wire_types.specs.declared.Status.TheVariants.{Success, NotFound, ExistsOutsideScope}
use Rattle.wire_runs.proofs.Lists.{slice_get-map_back}
use Rattle.wire_pattern.specs.Pattern.{Pattern}
use Rattle.wire_pattern_waits.specs.declared.CallLine.{CallLine}
use Rattle.wire_pattern_answers.specs.declared.answers.LineAnswers.{LineAnswers}
use Rattle.wire_pattern_answers.specs.declared.told.StatusesByLine.{StatusesByLine}
use Rattle.wire_pattern_answers.specs.FewPlacings.{IsOfThree}
use Rattle.wire_pattern_answers.specs.Answers.{Answers, AreOfLine, AreAnswers}
use Rattle.wire_pattern_answers.specs.Lines.{get_now_lines}
use Rattle.wire_pattern_answers.specs.Notes.{AreTold, told_of}

-- where no line is a get-now
none_are : (p : Pattern) → [] ≡ get_now_lines p → AreAnswers p []
none_are p none = record { lines = none; each = λ n answers at. none_there n answers at }
  where
    none_there : (n : ℕ) (answers : LineAnswers) → slice_get [] n ≡ Some answers → AreOfLine p answers
    none_there n answers at = cc

lines_kept : (told : StatusesByLine) (lines : List CallLine) → map (λ (answers : LineAnswers). answers.line) (map (told_of told) lines) ≡ lines
lines_kept told [] = refl
lines_kept told (line ∷ lines) = ap (λ ls. line ∷ ls) (lines_kept told lines)

answers_are : (p : Pattern) (told : StatusesByLine) (lines : List CallLine) (all : List LineAnswers) → all ≡ map (told_of told) lines → lines ≡ get_now_lines p
    → AreTold told (Answers p) → ((role line : ℕ) (status : Status) → Answers p role line status → IsOfThree status) → AreAnswers p all
answers_are p told lines all by are those three = record {
  lines = ap (map (λ (answers : LineAnswers). answers.line)) by ∙ lines_kept told lines ∙ are;
  each = λ n answers at.
      let v = slice_get-map_back (told_of told) lines n answers (ap (λ xs. slice_get xs n) (sym by) ∙ at) in
      subst (AreOfLine p) v.2 (of_line v.0);
}
  where
    of_line : (line : CallLine) → AreOfLine p (told_of told line)
    of_line line = record {
      success = those line.role line.number Success (inl refl);
      not_found = those line.role line.number NotFound (inr (inl refl));
      outside = those line.role line.number ExistsOutsideScope (inr (inr refl));
      no_other = three line.role line.number;
    }

-- of no line nothing has to be told
pub told_are : (p : Pattern) (told : StatusesByLine) (lines : List CallLine) (all : List LineAnswers) → all ≡ map (told_of told) lines → lines ≡ get_now_lines p
    → (lines ≢ [] → AreTold told (Answers p)) → ((role line : ℕ) (status : Status) → Answers p role line status → IsOfThree status) → AreAnswers p all
told_are p told [] all by are those three = subst (AreAnswers p) (sym by) (none_are p are)
told_are p told (line ∷ lines) all by are those three = answers_are p told (line ∷ lines) all by are (those (λ e. cc)) three
