-- What `check --anywhere` writes: all findings of all placements of the scripts' processes.
use Rattle.std.specs.Prelude.{◌≡◌, ◌↔◌, ℕ, List, Option, length}
use Rattle.wire_types.specs.declared.OutputFormat.{OutputFormat}
use Rattle.wire_scripts.specs.Scripts.{Scripts}
use Rattle.wire_scripts.specs.Planned.{plan_of}
use Rattle.wire_runs.specs.Plan.{Plan}
use Rattle.wire_runs.specs.Races.{IsSettled}
use Rattle.wire_runs.specs.Findings.{Finding, IsFound}
use Rattle.wire_runs.specs.FindingsAnywhere.{PlacementFinding, OnAll, OnPair, finding_of, HasPlacementFinding}
use Rattle.wire_runs.specs.Laws.{HasOneEnd}
use Rattle.wire_runs.specs.PlacingLaws.{ShareANode}
use Rattle.wire_runs.specs.Placings.{IsPlacing}
use Rattle.wire_anywhere.specs.declared.placed.PlacedFinding.{PlacedFinding}
use Rattle.wire_anywhere.specs.Anywhere.{AreFoundAnywhere, all_placed}
use Rattle.wire_anywhere_report.specs.Forms.{TellsPlaced}
use Rattle.wire_reader.specs.declared.Size.{Size}
use Rattle.wire_command.specs.declared.ended.Ended.{Ended}
use Rattle.wire_command.specs.declared.ended.Ended.TheVariants.{Clean}
use Rattle.wire_command.specs.Ending.{ended_of}
use Rattle.wire_command.specs.Read.{ReadAs}

-- nothing is found on any placing
abbrev pub IsSettledEverywhere : Plan → Type 0
IsSettledEverywhere plan = (other : Plan) → IsPlacing plan other → IsSettled other

-- on each placing, every interleaving that can't go on ends in one state, the plain run's: the same reply to every call,
-- and the same processes waiting. That state may be another one on another placing
abbrev pub EachHasOneEnd : Plan → Type 0
EachHasOneEnd plan = (other : Plan) → IsPlacing plan other → HasOneEnd other

-- it is a finding where it is said to be one: on each placing, or on each where two processes have a node of their own
abbrev pub IsFoundThere : Plan → PlacementFinding → Type 0
IsFoundThere plan (OnAll f) = (other : Plan) → IsPlacing plan other → IsFound other f
IsFoundThere plan (OnPair f a b) = (other : Plan) → IsPlacing plan other → ShareANode other a b → IsFound other f

abbrev pub AreFoundThere : Plan → List PlacementFinding → Type 0
AreFoundThere plan found = (f : PlacementFinding) → HasPlacementFinding found f → IsFoundThere plan f

-- whatever is found on a placing is among these
abbrev pub HasAllFound : Plan → List PlacementFinding → Type 0
HasAllFound plan found =
    (f : Finding) (other : Plan) → IsPlacing plan other → IsFound other f → (g : PlacementFinding) × HasPlacementFinding found g × (finding_of g ≡ f)

-- these are the findings of all placings of the scripts' plan, and it ends so: clean exactly where there is nothing to
-- find on any of them, and then each has one end. Each of them is a finding where it is said to be one, and all that is
-- found on some placing is among them
pub record IsJudgedAnywhere (scripts : Scripts) (found : List PlacedFinding) (ended : Ended) : Type 0 where
  pub those : AreFoundAnywhere scripts found
  pub ends : ended ≡ ended_of (length found)
  pub settled : (ended ≡ Clean) ↔ IsSettledEverywhere (plan_of scripts)
  pub one_end : ended ≡ Clean → EachHasOneEnd (plan_of scripts)
  pub there : AreFoundThere (plan_of scripts) (all_placed (plan_of scripts) found)
  pub all : HasAllFound (plan_of scripts) (all_placed (plan_of scripts) found)

-- the text of all findings of all placements, and how a check of them ends
pub record IsVerdictAnywhere (form : OutputFormat) (name : List ℕ) (scripts : Scripts) (rows : List (List ℕ)) (text : List ℕ) (ended : Ended) : Type 0 where
  pub found : List PlacedFinding
  pub judged : IsJudgedAnywhere scripts found ended
  pub tells : TellsPlaced form name rows scripts found text

-- what was to come read as scripts, and each placing of their plan has one end
pub record EndsInOneStateAnywhere (size : Size) (coming : Option (List ℕ)) : Type 0 where
  pub scripts : Scripts
  pub read : ReadAs size coming scripts
  pub one_end : EachHasOneEnd (plan_of scripts)
