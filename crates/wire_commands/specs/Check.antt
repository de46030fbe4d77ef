-- What `check` writes: all findings of the scripts that were to come from the reader.
use Rattle.std.specs.Prelude.{◌≡◌, ◌⊎◌, ◌↔◌, ℕ, Bool, true, false, List, Option}
use Rattle.wire_types.specs.declared.Fault.{Fault}
use Rattle.wire_types.specs.declared.Fault.TheVariants.{Memory, Read}
use Rattle.wire_types.specs.declared.OutputFormat.{OutputFormat}
use Rattle.wire_types.specs.Forms.{has_places, is_json}
use Rattle.wire_scripts.specs.Scripts.{Scripts}
use Rattle.wire_scripts.specs.Planned.{plan_of}
use Rattle.wire_runs.specs.Races.{IsSettled}
use Rattle.wire_runs.specs.Findings as runs
use Rattle.wire_runs.specs.Plan.{Plan}
use Rattle.wire_runs.specs.Laws.{HasOneEnd, AreUnordered}
use Rattle.wire_findings.specs.declared.finding.Finding.{Finding}
use Rattle.wire_findings.specs.Findings.{AreFindings, all_shown}
use Rattle.wire_report.specs.declared.tally.Group.{Group}
use Rattle.wire_report.specs.Findings.{findings_form}
use Rattle.wire_report.specs.Grouped.{AreGroupsOf}
use Rattle.wire_report.specs.GroupedText.{IsLocatedText}
use Rattle.wire_reader.specs.declared.Size.{Size}
use Rattle.wire_command.specs.declared.ended.Ended.{Ended}
use Rattle.wire_command.specs.declared.ended.Ended.TheVariants.{Clean}
use Rattle.wire_commands.specs.CallsJson.{json_groups}
use Rattle.wire_command.specs.Ending.{ended_with}
use Rattle.wire_command.specs.Read.{ReadAs, Refuses}

-- the two calls of each race among the findings are live, and no chain orders them
abbrev pub NoneIsOrdered : Plan → List Finding → Type 0
NoneIsOrdered plan found = (f : runs.Finding) → runs.Has (all_shown plan found) f → AreUnordered plan f

-- these are the findings of the scripts, and it ends so: clean exactly where there is nothing to find, and then every
-- interleaving that can't go on ends in one state. The calls of each race are live, and no chain orders them
pub record IsVerdictOf (scripts : Scripts) (found : List Finding) (ended : Ended) : Type 0 where
  pub those : AreFindings scripts found
  pub ends : ended ≡ ended_with found
  pub settled : (ended ≡ Clean) ↔ IsSettled (plan_of scripts)
  pub one_end : ended ≡ Clean → HasOneEnd (plan_of scripts)
  pub unordered : NoneIsOrdered (plan_of scripts) found

-- the text is the JSON form of these findings and their groups
pub record IsGroupedJson (rows : List (List ℕ)) (scripts : Scripts) (found : List Finding) (text : List ℕ) : Type 0 where
  pub groups : List Group
  pub grouped : AreGroupsOf scripts found groups
  pub tells : text ≡ json_groups rows scripts found groups

-- the text tells these findings in groups: in lines, or as JSON
abbrev pub IsGroupedText : (json : Bool) (name : List ℕ) (rows : List (List ℕ)) → Scripts → List Finding → List ℕ → Type 0
IsGroupedText false name rows scripts found text = IsLocatedText name scripts rows found text
IsGroupedText true name rows scripts found text = IsGroupedJson rows scripts found text

-- with places the text tells them in groups, else one by one
abbrev pub TellsEach : (places json : Bool) (name : List ℕ) (rows : List (List ℕ)) → Scripts → List Finding → List ℕ → Type 0
TellsEach false json name rows scripts found text = text ≡ findings_form json scripts found
TellsEach true json name rows scripts found text = IsGroupedText json name rows scripts found text

-- the text tells these findings in this form
abbrev pub TellsFindings : (form : OutputFormat) (name : List ℕ) (rows : List (List ℕ)) → Scripts → List Finding → List ℕ → Type 0
TellsFindings form name rows scripts found text = TellsEach (has_places form) (is_json form) name rows scripts found text

-- the text of all findings of the scripts, and how a check of them ends
pub record IsVerdict (form : OutputFormat) (name : List ℕ) (scripts : Scripts) (rows : List (List ℕ)) (text : List ℕ) (ended : Ended) : Type 0 where
  pub found : List Finding
  pub judged : IsVerdictOf scripts found ended
  pub tells : TellsFindings form name rows scripts found text

-- what was to come read as scripts, and every interleaving of their plan that can't go on ends in one state, the plain
-- run's: the same reply to every call, and the same processes waiting
pub record EndsInOneState (size : Size) (coming : Option (List ℕ)) : Type 0 where
  pub scripts : Scripts
  pub read : ReadAs size coming scripts
  pub one_end : HasOneEnd (plan_of scripts)

-- why nothing is written: memory ran out, a read failed, or the file is refused
abbrev pub StopsBeforeFindings : Size → Option (List ℕ) → Fault → Type 0
StopsBeforeFindings size coming fault = (fault ≡ Memory) ⊎ ((fault ≡ Read) ⊎ Refuses size coming fault)
