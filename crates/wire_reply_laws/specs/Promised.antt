-- What is judged of a pattern's calls that wait, and what that promises.
use Rattle.std.specs.Prelude.{◌≡◌, ◌<◌, ◌^◌, ℕ, List, Some, Ok, slice_get}
use Rattle.wire_runs.specs.Plan.{Plan, Event, Kind, kind}
use Rattle.wire_runs.specs.State.{start, IsDone}
use Rattle.wire_runs.specs.Step.{IsInterleaving, run, IsEnd}
use Rattle.wire_runs.specs.Patterns as plan
use Rattle.wire_runs.specs.Patterns.{Coding, instance_of}
use Rattle.wire_scripts.specs.Scripts.{Scripts}
use Rattle.wire_scripts.specs.Planned.{plan_of}
use Rattle.wire_reader.specs.declared.Size.{Size}
use Rattle.wire_reader.specs.declared.Size.TheVariants.{OfVersion}
use Rattle.wire_reader.specs.Reads.{Reads}
use Rattle.wire_pattern.specs.Pattern.{Pattern}
use Rattle.wire_pattern.specs.Planned.{pattern_of}
use Rattle.wire_pattern.specs.Lawful.{IsSoundPattern}
use Rattle.wire_pattern.specs.Instances.{Cast, IsCast, cast_of, instance_text}
use Rattle.wire_size_laws.specs.Stages.{Stages}
use Rattle.wire_cutoff_laws.specs.Sizes.{total_of}
use Rattle.wire_cutoff_laws.specs.Promised.{IsAnyCast, IsSettledForAll}
use Rattle.wire_cutoff.specs.Selections.{Selection, most_sizes, selections}
use Rattle.wire_cutoff.specs.Texts.{HaveLeast}
use Rattle.wire_pattern_waits.specs.Waits.{alone, AllReadAsPlans, AllReplied}
use Rattle.wire_reply_laws.specs.Kept.{KeepsStages}

-- the instance of each selection that is judged keeps the stages, as its text reads
abbrev pub AllStaged : Pattern → Stages → Type 0
AllStaged p stages = (number : ℕ) (selection : Selection) (scripts : Scripts) → slice_get (selections p) number ≡ Some selection
    → Reads OfVersion (instance_text p (alone p selection)) (Ok scripts)
    → KeepsStages stages (pattern_of p) (cast_of (alone p selection)) (plan_of scripts)

-- nothing is found for any number of processes; the texts of the instances that are judged read as plans, in which each
-- call has its reply, and which keep the stages
pub record KeepsPromise (p : Pattern) (stages : Stages) : Type 0 where
  pub sound : IsSoundPattern p
  pub settled : IsSettledForAll p
  pub few : total_of (most_sizes p.roles) < 2 ^ 31
  pub read : AllReadAsPlans p
  pub replied : AllReplied p
  pub staged : AllStaged p stages

-- in each interleaving of the plan that can't go on every event has happened: every call has its reply, no process waits
abbrev pub IsAlwaysAnswered : Plan → Type 0
IsAlwaysAnswered plan = (w : List ℕ) → IsInterleaving plan start w → IsEnd plan (run plan w) → (y : Event) (k : Kind)
    → kind plan y ≡ Some k → IsDone (run plan w) y

-- with any number of processes of each role, its least at least, any turns of `for some`, on any nodes
abbrev pub IsAnsweredForAll : Pattern → Type 0
IsAnsweredForAll p = (coding : Coding) (cast : plan.Cast) → IsAnyCast p cast → IsAlwaysAnswered (instance_of (pattern_of p) coding cast)

abbrev pub AllAnswered : Type 0
AllAnswered = (p : Pattern) (stages : Stages) → KeepsPromise p stages → IsAnsweredForAll p

-- so it is in the plan that the text of an instance reads as, whatever the size and the nodes, if it reads at all
abbrev pub AreTextsAnswered : Pattern → Type 0
AreTextsAnswered p = (cast : Cast) (size : Size) (s : Scripts) → IsCast p cast → HaveLeast p.roles cast.sizes
    → Reads size (instance_text p cast) (Ok s) → IsAlwaysAnswered (plan_of s)

abbrev pub TextsAnswered : Type 0
TextsAnswered = (p : Pattern) (stages : Stages) → KeepsPromise p stages → AreTextsAnswered p
