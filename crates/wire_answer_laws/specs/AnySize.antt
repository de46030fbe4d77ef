-- What the answers of the instances that are judged tell of instances of any size.
use Rattle.std.specs.Prelude.{◌≡◌, ◌<◌, ◌^◌, ℕ, Some, Ok, slice_get}
use Rattle.wire_types.specs.declared.Status.{Status}
use Rattle.wire_runs.specs.Plan.{Plan, Event, LookupWait, kind}
use Rattle.wire_runs.specs.State.{next_event}
use Rattle.wire_runs.specs.Order.{PublishesOnce}
use Rattle.wire_runs.specs.Laws.{plain_end}
use Rattle.wire_scripts.specs.Scripts.{Scripts}
use Rattle.wire_scripts.specs.Planned.{plan_of}
use Rattle.wire_reader.specs.declared.limits.Size.{Size}
use Rattle.wire_reader.specs.declared.Size.TheVariants.{OfVersion}
use Rattle.wire_reader.specs.Reads.{Reads}
use Rattle.wire_pattern.specs.Pattern.{Pattern}
use Rattle.wire_pattern.specs.Lawful.{IsSoundPattern}
use Rattle.wire_pattern.specs.Instances.{Cast, IsCast, instance_text}
use Rattle.wire_cutoff_laws.specs.Sizes.{total_of}
use Rattle.wire_cutoff_laws.specs.Promised.{IsSettledForAll}
use Rattle.wire_cutoff.specs.Selections.{Selection, selections, most_sizes}
use Rattle.wire_cutoff.specs.Texts.{HaveLeast}
use Rattle.wire_pattern_waits.specs.Waits.{alone, AllReadAsPlans, AllReplied}
use Rattle.wire_pattern_answers.specs.Answers.{IsAnsweredAtLine, Answers}

-- where the plain run can't go on, each lookup-wait at which a process stands is of a name that is published once and
-- never taken away
abbrev pub StandsForOne : Plan → Type 0
StandsForOne plan = (p name : ℕ) → kind plan (next_event (plain_end plan) p) ≡ Some (LookupWait name) → (x : Event) × PublishesOnce plan x name

-- so it is in the instance of each selection that is judged, as its text reads
abbrev pub AllStandForOne : Pattern → Type 0
AllStandForOne p = (number : ℕ) (selection : Selection) (scripts : Scripts) → slice_get (selections p) number ≡ Some selection
    → Reads OfVersion (instance_text p (alone p selection)) (Ok scripts) → StandsForOne (plan_of scripts)

-- so it is where no call waits in them
abbrev pub RepliedStandForOne : Type 0
RepliedStandForOne = (p : Pattern) → AllReplied p → AllStandForOne p

-- nothing is found for any number of processes; and the texts of the instances that are judged read as plans, in which
-- no process waits for a name that several publish, that is taken away, or that nobody publishes
pub record IsJudgedForOne (p : Pattern) : Type 0 where
  pub sound : IsSoundPattern p
  pub settled : IsSettledForAll p
  pub few : total_of (most_sizes p.roles) < 2 ^ 31
  pub read : AllReadAsPlans p
  pub one : AllStandForOne p

-- if a get-now is answered with a status in an instance of any size, on any nodes, as its text reads, a get-now of its
-- line is answered with it in an instance that is judged
abbrev pub AnswersSuffice : Pattern → Type 0
AnswersSuffice p = (cast : Cast) (size : Size) (s : Scripts) → IsCast p cast → HaveLeast p.roles cast.sizes
    → Reads size (instance_text p cast) (Ok s)
    → (role line : ℕ) (status : Status) → IsAnsweredAtLine p cast s role line status → Answers p role line status

abbrev pub AnswersOfSmall : Type 0
AnswersOfSmall = (p : Pattern) → IsJudgedForOne p → AnswersSuffice p
