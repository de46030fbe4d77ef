-- What `check --anywhere --same` writes: all findings of all placements, and where there are none the calls whose replies
-- aren't the same on all.
use Rattle.std.specs.Prelude.{◌≡◌, ◌≢◌, ◌⊎◌, ◌<◌, ℕ, List, Option, length}
use Rattle.wire_types.specs.declared.OutputFormat.{OutputFormat}
use Rattle.wire_scripts.specs.Scripts.{Scripts}
use Rattle.wire_scripts.specs.Planned.{plan_of}
use Rattle.wire_anywhere.specs.declared.Differing.{Differing}
use Rattle.wire_runs.specs.Plan.{Plan, Event, process_count}
use Rattle.wire_runs.specs.Laws.{plain_end}
use Rattle.wire_anywhere.specs.Differing.{IsUntold, AreDiffering}
use Rattle.wire_anywhere_report.specs.Differing.{differing_form}
use Rattle.wire_reader.specs.declared.Size.{Size}
use Rattle.wire_command.specs.declared.ended.Ended.{Ended}
use Rattle.wire_command.specs.declared.ended.Ended.TheVariants.{Clean}
use Rattle.wire_commands.specs.CheckAnywhere.{EachHasOneEnd, IsSettledEverywhere, IsVerdictAnywhere}
use Rattle.wire_command.specs.Ending.{ended_of}
use Rattle.wire_command.specs.Read.{ReadAs}

-- nothing is found on any placing, so each has one end, and the text tells the answered calls whose replies aren't the same on all
pub record TellsDiffering (form : OutputFormat) (name : List ℕ) (scripts : Scripts) (rows : List (List ℕ)) (text : List ℕ) (ended : Ended) : Type 0 where
  pub differing : List Differing
  pub settled : IsSettledEverywhere (plan_of scripts)
  pub one_end : EachHasOneEnd (plan_of scripts)
  pub those : AreDiffering (plan_of scripts) differing
  pub ends : ended ≡ ended_of (length differing)
  pub tells : text ≡ differing_form form name rows scripts differing

-- something is found
pub record TellsFindingsAnywhere (form : OutputFormat) (name : List ℕ) (scripts : Scripts) (rows : List (List ℕ)) (text : List ℕ) (ended : Ended) : Type 0 where
  pub verdict : IsVerdictAnywhere form name scripts rows text ended
  pub not_clean : ended ≢ Clean

abbrev pub IsSameVerdict : OutputFormat → List ℕ → Scripts → List (List ℕ) → List ℕ → Ended → Type 0
IsSameVerdict form name scripts rows text ended = TellsFindingsAnywhere form name scripts rows text ended ⊎ TellsDiffering form name scripts rows text ended

-- each event that comes in the plain run is a call of a reserved key or name, or replies the same on every placing
abbrev pub NoneDiffers : Plan → Type 0
NoneDiffers plan = (x : Event) → x.proc < process_count plan → x.at < (plain_end plan).done x.proc → IsUntold plan x

-- what was to come read as scripts, each placing of their plan has one end, and each answered call replies the same on
-- all of them, calls of reserved keys and names aside
pub record IsSameEverywhere (size : Size) (coming : Option (List ℕ)) : Type 0 where
  pub scripts : Scripts
  pub read : ReadAs size coming scripts
  pub one_end : EachHasOneEnd (plan_of scripts)
  pub same : NoneDiffers (plan_of scripts)
