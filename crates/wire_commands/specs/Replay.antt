-- What `replay` writes. Where nothing is found, it is what became of every call in the plain run, for any
-- number of workers.
use Rattle.std.specs.Prelude.{◌≡◌, ◌≢◌, ◌⊎◌, ℕ, Bool, true, false, List, [], ◌∷◌, Option}
use Rattle.std.specs.Io.KnownBytes.{Appends}
use Rattle.wire_types.specs.Front.{WritesFront}
use Rattle.wire_types.specs.declared.Fault.{Fault}
use Rattle.wire_types.specs.declared.Fault.TheVariants.{Workers}
use Rattle.wire_types.specs.Outcome.{Ends}
use Rattle.wire_scripts.specs.Scripts.{Scripts}
use Rattle.wire_scripts.specs.Planned.{plan_of}
use Rattle.wire_runs.specs.Laws.{HasOneEnd}
use Rattle.wire_findings.specs.declared.finding.Finding.{Finding}
use Rattle.wire_findings.specs.Findings.{AreFindings}
use Rattle.wire_core.specs.EndsAfter.{plain_ends}
use Rattle.wire_parallel_run.specs.Collect.{MayWork, IsCompleteRun}
use Rattle.wire_report.specs.Report.{report_form}
use Rattle.wire_report.specs.Findings.{findings_form}
use Rattle.wire_report.specs.Unsettled.{unsettled_form}
use Rattle.wire_standstill.specs.Told.{ReportsStandstill}
use Rattle.wire_reader.specs.declared.Size.{Size}
use Rattle.wire_commands.specs.declared.replay.Verdict.{Verdict}
use Rattle.wire_commands.specs.declared.replay.Verdict.TheVariants.{Clean as NothingFound, Found as SomeFound}
use Rattle.wire_commands.specs.declared.replay.Mode.{Mode}
use Rattle.wire_command.specs.declared.ended.Ended.{Ended}
use Rattle.wire_commands.specs.Check.{IsVerdictOf, StopsBeforeFindings}
use Rattle.wire_command.specs.Read.{ReadAs}

-- what was judged is the plan of the scripts: settled, or with all that is found in it, which is something
abbrev pub JudgesPlan : Scripts → Verdict → Type 0
JudgesPlan scripts (NothingFound plan) = (plan ≡ scripts) × AreFindings plan []
JudgesPlan scripts (SomeFound it) = (it.plan ≡ scripts) × AreFindings it.plan it.findings × (it.findings ≢ [])

-- the text tells an interleaving of the scripts that can't go on: its steps, and what became of every call after them
pub record TellsRun (json : Bool) (scripts : Scripts) (text : List ℕ) : Type 0 where
  pub order : List ℕ
  pub ends : Ends
  pub complete : IsCompleteRun scripts order ends
  pub tells : text ≡ unsettled_form json scripts ends order

-- what is written where these are found: they alone, or an interleaving in spite of them
abbrev pub TellsFound : (json anyway : Bool) → Scripts → List Finding → List ℕ → Type 0
TellsFound json false scripts found text = text ≡ findings_form json scripts found
TellsFound json true scripts found text = TellsRun json scripts text

-- where nothing is found: the report of the plain run, and as JSON, if it is to be explained, who waits for ever where that
-- run stands at last
abbrev pub TellsEnd : (json explain : Bool) → Scripts → List ℕ → Type 0
TellsEnd true true scripts text = ReportsStandstill scripts (plain_ends scripts) text
TellsEnd json _ scripts text = text ≡ report_form json scripts (plain_ends scripts)

-- what is written where these are found
abbrev pub TellsReplay : Mode → Scripts → List Finding → List ℕ → Type 0
TellsReplay mode scripts [] text = TellsEnd mode.json mode.explain scripts text
TellsReplay mode scripts (f ∷ fs) text = TellsFound mode.json mode.anyway scripts (f ∷ fs) text

-- the text of a replay of the scripts, and how it ends
pub record IsReplay (mode : Mode) (scripts : Scripts) (text : List ℕ) (ended : Ended) : Type 0 where
  pub found : List Finding
  pub judged : IsVerdictOf scripts found ended
  pub tells : TellsReplay mode scripts found text

-- what was to come read as scripts of which every interleaving that can't go on ends in one state, the plain run's, and
-- the report of that state went out
pub record WritesOneEnd (size : Size) (mode : Mode) (coming old new : Option (List ℕ)) : Type 0 where
  pub scripts : Scripts
  pub read : ReadAs size coming scripts
  pub one_end : HasOneEnd (plan_of scripts)
  pub text : List ℕ
  pub tells : TellsEnd mode.json mode.explain scripts text
  pub wrote : Appends old new text

-- all of a replay of what was to come went out
pub record WritesReplay (size : Size) (mode : Mode) (coming : Option (List ℕ)) (ended : Ended) (old new : Option (List ℕ)) : Type 0 where
  pub scripts : Scripts
  pub read : ReadAs size coming scripts
  pub text : List ℕ
  pub replay : IsReplay mode scripts text ended
  pub wrote : Appends old new text

-- exactly as many bytes of it went out as the fault says, which aren't all of it
pub record BreaksOffReplay (size : Size) (mode : Mode) (coming old new : Option (List ℕ)) (fault : Fault) : Type 0 where
  pub scripts : Scripts
  pub read : ReadAs size coming scripts
  pub ended : Ended
  pub text : List ℕ
  pub replay : IsReplay mode scripts text ended
  pub wrote : WritesFront old new text fault

-- why nothing is written: there can't be so many workers, or it is a reason for which a check writes nothing
abbrev pub StopsBeforeReplay : Size → ℕ → Option (List ℕ) → Fault → Type 0
StopsBeforeReplay size workers coming fault = ((fault ≡ Workers) × (MayWork workers → ⊥)) ⊎ (MayWork workers × StopsBeforeFindings size coming fault)
