-- With which statuses the get-nows of a pattern's call lines are answered: in all instances that are judged, on all
-- nodes.
use Rattle.std.specs.Prelude.{◌≡◌, ◌↔◌, ℕ, true, List, Some, Ok, map, slice_get}
use Rattle.wire_types.specs.declared.Status.{Status}
use Rattle.wire_types.specs.declared.Status.TheVariants.{Success, NotFound, ExistsOutsideScope}
use Rattle.wire_scripts.specs.Scripts.{Scripts, call_at}
use Rattle.wire_scripts.specs.Placed.{moved}
use Rattle.wire_reader.specs.declared.Size.TheVariants.{OfVersion}
use Rattle.wire_reader.specs.Reads.{Reads}
use Rattle.wire_pattern.specs.Pattern.{Pattern}
use Rattle.wire_pattern.specs.Planned.{steps_in}
use Rattle.wire_pattern.specs.Instances.{Cast, cast_of, instance_text}
use Rattle.wire_cutoff.specs.Selections.{Selection, selections}
use Rattle.wire_pattern_waits.specs.Places.{steps_places}
use Rattle.wire_pattern_waits.specs.Waits.{alone}
use Rattle.wire_pattern_answers.specs.declared.answers.LineAnswers.{LineAnswers}
use Rattle.wire_pattern_answers.specs.FewPlacings.{asks_now, IsAnsweredWith, IsOfThree}
use Rattle.wire_pattern_answers.specs.Lines.{get_now_lines}

-- in the plain run of these scripts a process of the role is answered with this status at a get-now that comes from the
-- line of this number of the role's script
pub record IsAnsweredAtLine (p : Pattern) (cast : Cast) (scripts : Scripts) (role line : ℕ) (status : Status) : Type 0 where
  pub process : ℕ
  pub call : ℕ
  pub has_role : slice_get (cast_of cast).roles process ≡ Some role
  pub of_line : slice_get (steps_places cast process 0 1 (steps_in (slice_get p.roles role))) call ≡ Some line
  pub asks : asks_now (call_at scripts.processes process call) ≡ true
  pub answered : IsAnsweredWith scripts process call status

-- so it is in the instance of this selection, on some nodes
pub record AnswersIn (p : Pattern) (selection : Selection) (role line : ℕ) (status : Status) : Type 0 where
  pub scripts : Scripts
  pub reads : Reads OfVersion (instance_text p (alone p selection)) (Ok scripts)
  pub names : List (List ℕ)
  pub nodes : ℕ → ℕ
  pub answered : IsAnsweredAtLine p (alone p selection) (moved scripts names nodes) role line status

-- so it is in the instance of some selection that is judged, on some nodes
pub record Answers (p : Pattern) (role line : ℕ) (status : Status) : Type 0 where
  pub number : ℕ
  pub selection : Selection
  pub is : slice_get (selections p) number ≡ Some selection
  pub answers : AnswersIn p selection role line status

-- a line with exactly the statuses with which it is answered, each one of three
pub record AreOfLine (p : Pattern) (answers : LineAnswers) : Type 0 where
  pub success : (answers.success ≡ true) ↔ Answers p answers.line.role answers.line.number Success
  pub not_found : (answers.not_found ≡ true) ↔ Answers p answers.line.role answers.line.number NotFound
  pub outside : (answers.outside ≡ true) ↔ Answers p answers.line.role answers.line.number ExistsOutsideScope
  pub no_other : (status : Status) → Answers p answers.line.role answers.line.number status → IsOfThree status

-- of all get-now lines of the pattern, in their order
pub record AreAnswers (p : Pattern) (all : List LineAnswers) : Type 0 where
  pub lines : map (λ (answers : LineAnswers). answers.line) all ≡ get_now_lines p
  pub each : (n : ℕ) (answers : LineAnswers) → slice_get all n ≡ Some answers → AreOfLine p answers
