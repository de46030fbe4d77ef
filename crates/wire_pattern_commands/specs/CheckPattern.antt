-- What `check --pattern` writes: that nothing is found for any number of processes, or a counterexample.
use Rattle.std.specs.Prelude.{◌≡◌, ◌⊎◌, ◌==◌, ◌&&◌, ◌||◌, ℕ, Bool, true, not, List, [], ◌++◌, count_by, Option, Ok, codes, decimal, length, if◌then◌else◌}
use Rattle.std.specs.List.{flat_map}
use Rattle.std.specs.Io.KnownBytes.{Appends}
use Rattle.wire_types.specs.Front.{WritesFront}
use Rattle.wire_types.specs.declared.Fault.{Fault}
use Rattle.wire_types.specs.declared.Fault.TheVariants.{Memory, Read}
use Rattle.wire_scripts.specs.Scripts.{Scripts}
use Rattle.wire_scripts.specs.Planned.{plan_of}
use Rattle.wire_runs.specs.Laws.{HasOneEnd}
use Rattle.wire_reader.specs.declared.limits.Size.{Size}
use Rattle.wire_reader.specs.Reads.{Reads}
use Rattle.wire_cutoff.specs.Texts.{HaveLeast}
use Rattle.wire_findings.specs.declared.finding.Finding.{Finding}
use Rattle.wire_report.specs.Findings.{finding_line, count_line}
use Rattle.wire_pattern.specs.Pattern.{Pattern}
use Rattle.wire_pattern.specs.Lawful.{IsSoundPattern}
use Rattle.wire_pattern.specs.Instances.{Cast, IsCast, instance_text}
use Rattle.wire_cutoff_laws.specs.Promised.{IsSettledForAll, HasOneEndForAll}
use Rattle.wire_pattern_waits.specs.declared.lines.CallLine.{CallLine}
use Rattle.wire_pattern_waits.specs.Lines.{waits_text}
use Rattle.wire_pattern_waits.specs.Waits.{AreWaiting, AllReadAsPlans, AllReplied}
use Rattle.wire_pattern_answers.specs.declared.answers.LineAnswers.{LineAnswers}
use Rattle.wire_pattern_answers.specs.Lines.{answers_text}
use Rattle.wire_pattern_answers.specs.Answers.{AreAnswers}
use Rattle.wire_pattern_commands.specs.declared.asked.PatternAsked.{PatternAsked}
use Rattle.wire_command.specs.Ending.{ended_of}
use Rattle.wire_cutoff.specs.Judged.{IsCounterexample, IsSweepFault, IsWithinPatternLimits}
use Rattle.wire_answer_laws.specs.AnySize.{AnswersSuffice}
use Rattle.wire_pattern_stages.specs.Lookups.{AllWaitForOne}
use Rattle.wire_pattern_commands.specs.AtLeast.{least_text}
use Rattle.wire_pattern_commands.specs.Beyond.{IsBeyond, is_known_answered, beyond_text}
use Rattle.wire_pattern_commands.specs.declared.beyond.Beyond.{Beyond}
use Rattle.wire_pattern_commands.specs.Succeeding.{IsSuccessTold}
use Rattle.wire_pattern_commands.specs.FirstWait.{ExplainsFirstWait}
use Rattle.wire_pattern_commands.specs.PatternJson.{json_counterexample, json_settled}
use Rattle.wire_pattern_commands.specs.Read.{ReadAsPattern, RefusesPattern}
use Rattle.wire_command.specs.declared.ended.Ended.{Ended}
use Rattle.wire_command.specs.declared.ended.Ended.TheVariants.{Clean, Found}

abbrev pub settled_line : List ℕ
settled_line = codes "findings 0 for every number of ranks on every placement\n"

-- how many ranks the counterexample has
abbrev pub head_line : ℕ → List ℕ
head_line count = codes "# counterexample, " ++ decimal count ++ (if count == 1 then codes " rank\n" else codes " ranks\n")

-- a finding, as a comment
abbrev pub finding_comment : Scripts → Finding → List ℕ
finding_comment scripts finding = codes "# " ++ finding_line scripts finding

-- the text of a plan between two comments: how many ranks it has, and its findings
abbrev pub counterexample_text : List ℕ → Scripts → List Finding → List ℕ
counterexample_text text scripts found =
    head_line (length scripts.processes) ++ text ++ flat_map (finding_comment scripts) found ++ codes "# " ++ count_line (length found)

-- the same in the form that is asked for: the text, or JSON
abbrev pub counterexample_form : Bool → List ℕ → Scripts → List Finding → List ℕ
counterexample_form json text scripts found = if json then json_counterexample text scripts found else counterexample_text text scripts found

-- that nothing is found, a line for each group with a least number and for each call line at which something waits, what is
-- said of larger instances, and where that is asked for a line for each get-now
abbrev pub settled_text : Bool → Beyond → Pattern → List CallLine → List LineAnswers → List ℕ
settled_text asked beyond p lines answers =
    settled_line ++ (least_text p ++ (waits_text p lines ++ (beyond_text p beyond ++ (if asked then answers_text p answers else []))))

-- the same in the form that is asked for
abbrev pub settled_form : PatternAsked → Beyond → Bool → Pattern → List CallLine → List LineAnswers → List ℕ
settled_form asked beyond exact p lines answers =
    if asked.json then json_settled asked.answers beyond exact p lines answers else settled_text asked.answers beyond p lines answers

-- whether no get-now of the line is answered with anything but success
abbrev pub succeeds : LineAnswers → Bool
succeeds answers = not answers.not_found && not answers.outside

-- how the command ends where nothing is found. If `complete` is asked for, with the count of the call lines at which
-- something waits; where there are none, with 1 unless it is known that none waits with any number of ranks; then with 1
-- unless every call of the instances that are judged succeeds; and then with the count of the get-now lines that don't
-- succeed
abbrev pub settled_end : PatternAsked → Bool → Bool → List CallLine → List LineAnswers → Ended
settled_end asked everywhere succeeding lines answers =
    if not asked.complete then Clean
    else if not (length lines == 0) then ended_of (length lines)
    else if not (everywhere && succeeding) then ended_of 1
    else ended_of (count_by (λ a. not (succeeds a)) answers)

-- it is said that nothing is found, where something waits in the instances that are judged, which all read as plans, and
-- if that is asked for how each get-now is answered. If nothing waits, each call of these instances has its reply; what is
-- said of larger instances is so; and with `complete`, where every call is known to be answered for every number of
-- ranks, the end tells whether each call of the instances that are judged succeeds. Where the answers are said to be those
-- of every number of ranks, in an instance of any size each get-now is answered with one of these statuses, or never; and so
-- they are said to be where nothing waits, or each lookup-wait is of a name that is published once and never taken away
pub record IsSettledSaid (p : Pattern) (asked : PatternAsked) (beyond : Beyond) (text : List ℕ) (ended : Ended) : Type 0 where
  pub lines : List CallLine
  pub waiting : AreWaiting p lines
  pub read : AllReadAsPlans p
  pub replied : lines ≡ [] → AllReplied p
  pub beyond_is : IsBeyond p lines beyond
  pub succeeding : Bool
  pub told : asked.complete && is_known_answered beyond ≡ true → IsSuccessTold p succeeding
  pub answers : List LineAnswers
  pub answered : asked.answers || asked.complete ≡ true → AreAnswers p answers
  pub exact : Bool
  pub suffices : exact ≡ true → AnswersSuffice p
  pub known : (lines ≡ []) ⊎ AllWaitForOne p → exact ≡ true
  pub is : text ≡ settled_form asked beyond exact p lines answers
  pub ends : ended ≡ settled_end asked (is_known_answered beyond) succeeding lines answers

-- the same, and if that is asked for who waits for ever
pub record IsExplainedSaid (p : Pattern) (asked : PatternAsked) (text : List ℕ) (ended : Ended) : Type 0 where
  pub verdict : List ℕ
  pub beyond : Beyond
  pub said : IsSettledSaid p asked beyond verdict ended
  pub explains : ExplainsFirstWait asked.explain asked.json p beyond verdict text

-- the text of each instance with the least number of each role at least, if it reads as a plan of whatever size, has one
-- end: every interleaving that can't go on ends in one state
abbrev pub HaveTextsOneEnd : Pattern → Type 0
HaveTextsOneEnd p = (cast : Cast) (size : Size) (scripts : Scripts) → IsCast p cast → HaveLeast p.roles cast.sizes
    → Reads size (instance_text p cast) (Ok scripts) → HasOneEnd (plan_of scripts)

-- nothing is found, whatever the number of processes, and then each instance has one end, and so its text
pub record IsSettledText (p : Pattern) (asked : PatternAsked) (text : List ℕ) (ended : Ended) : Type 0 where
  pub settled : IsSettledForAll p
  pub one_end : HasOneEndForAll p
  pub texts : HaveTextsOneEnd p
  pub said : IsExplainedSaid p asked text ended

-- an instance with its findings
pub record IsUnsettledText (p : Pattern) (asked : PatternAsked) (text : List ℕ) (ended : Ended) : Type 0 where
  pub cast : Cast
  pub plan_text : List ℕ
  pub scripts : Scripts
  pub found : List Finding
  pub shows : IsCounterexample p cast plan_text scripts found
  pub ends : ended ≡ Found (length found)
  pub is : text ≡ counterexample_form asked.json plan_text scripts found

abbrev pub IsPatternVerdict : Pattern → PatternAsked → List ℕ → Ended → Type 0
IsPatternVerdict p asked text ended = IsSettledText p asked text ended ⊎ IsUnsettledText p asked text ended

-- what was to come reads as this pattern, which is sound and within the limits
pub record IsJudgedPattern (coming : Option (List ℕ)) (pattern : Pattern) : Type 0 where
  pub read : ReadAsPattern coming pattern
  pub sound : IsSoundPattern pattern
  pub within : IsWithinPatternLimits pattern

-- all of the verdict of what was to come went out
pub record WritesPatternVerdict (asked : PatternAsked) (coming : Option (List ℕ)) (ended : Ended) (old new : Option (List ℕ)) : Type 0 where
  pub pattern : Pattern
  pub judged : IsJudgedPattern coming pattern
  pub text : List ℕ
  pub tells : IsPatternVerdict pattern asked text ended
  pub wrote : Appends old new text

-- exactly as many bytes of it went out as the fault says, which aren't all of it
pub record BreaksOffPatternVerdict (asked : PatternAsked) (coming : Option (List ℕ)) (old new : Option (List ℕ)) (fault : Fault) : Type 0 where
  pub pattern : Pattern
  pub judged : IsJudgedPattern coming pattern
  pub text : List ℕ
  pub ended : Ended
  pub tells : IsPatternVerdict pattern asked text ended
  pub wrote : WritesFront old new text fault

-- it reads as a pattern that can't be judged
pub record IsUnjudged (coming : Option (List ℕ)) (fault : Fault) : Type 0 where
  pub pattern : Pattern
  pub read : ReadAsPattern coming pattern
  pub fault_is : IsSweepFault pattern fault

-- why nothing is written
abbrev pub StopsBeforePattern : Option (List ℕ) → Fault → Type 0
StopsBeforePattern coming fault = (fault ≡ Memory) ⊎ ((fault ≡ Read) ⊎ (RefusesPattern coming fault ⊎ IsUnjudged coming fault))

-- what was to come reads as a pattern. With any number of processes of each role, on any nodes, every interleaving that
-- can't go on ends in one state, and so it is in the texts of instances
pub record EndsInOneStateForAll (coming : Option (List ℕ)) : Type 0 where
  pub pattern : Pattern
  pub read : ReadAsPattern coming pattern
  pub one_end : HasOneEndForAll pattern
  pub texts : HaveTextsOneEnd pattern
