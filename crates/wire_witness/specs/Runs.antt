-- Runs of which a witness is made: for the contracts of private functions.
use Rattle.std.specs.Prelude.{◌≡◌, ◌≢◌, ◌<◌, ◌==◌, ◌⊎◌, ℕ, List, [], ◌++◌, Option, Some, None, IfSome, option_map}
use Rattle.std.specs.Prelude.{if◌then◌else◌}
use Rattle.wire_runs.specs.Plan.{Plan, Event, event_count, process_count}
use Rattle.wire_runs.specs.State.{IsDone}
use Rattle.wire_runs.specs.Order.{Live}
use Rattle.wire_happens_before.specs.Clocks.{IsClockOf}
use Rattle.wire_core.specs.Course.{Course, state_of}
use Rattle.wire_core.specs.Within.{limit_at, RunsWithin}
use Rattle.wire_types.specs.declared.CallAt.{CallAt}
use Rattle.wire_scripts.specs.Scripts.{Scripts}
use Rattle.wire_scripts.specs.Planned.{plan_of}
use Rattle.wire_words.specs.Words.{end_text}
use Rattle.wire_witness.specs.declared.runs.Run.{Run}
use Rattle.wire_witness.specs.declared.search.Difference.{Difference}
use Rattle.wire_witness.specs.declared.search.Runs.{Runs}
use Rattle.wire_runs.specs.Ends.{first_event}
use Rattle.wire_witness.specs.Witness.{IsRunWithFirst, AreBoth, end_after}
use Rattle.wire_witness.specs.NotShown.{EndAlikeWhereMade, IsHeldRun, IsNeededRun}

-- the core has run the scripts to an end, and in this run x comes first; the ends are those of x and of y
pub record IsWitnessRun (scripts : Scripts) (x y : CallAt) (run : Run) : Type 0 where
  pub scripts_are : run.core.scripts ≡ scripts
  pub with_first : IsRunWithFirst (plan_of scripts) run.core.history x y
  pub first_end : end_after (plan_of scripts) run.core.history x ≡ Some run.first_end
  pub other_end : end_after (plan_of scripts) run.core.history y ≡ Some run.other_end

-- the ends of one of the two calls in these runs differ as they are written
pub record EndsDiffer (scripts : Scripts) (x y : CallAt) (first second : Run) (apart : Difference) : Type 0 where
  pub both : AreBoth x y apart.call apart.other
  pub first_end : end_after (plan_of scripts) first.core.history apart.call ≡ Some apart.first_end
  pub second_end : end_after (plan_of scripts) second.core.history apart.call ≡ Some apart.second_end
  pub differ : end_text scripts apart.first_end ≢ end_text scripts apart.second_end

-- where there is a first run, x comes first in it; where there is a second, y
pub record AreRunsOf (scripts : Scripts) (x y : CallAt) (runs : Runs) : Type 0 where
  pub first : IfSome runs.first (IsWitnessRun scripts x y)
  pub second : IfSome runs.second (IsWitnessRun scripts y x)

-- each process may take all its events, and that of the held event those before it
abbrev pub AreLimitsBefore : Plan → Event → List ℕ → Type 0
AreLimitsBefore plan held limits =
    (p : ℕ) → p < process_count plan → limit_at limits p ≡ (if p == held.proc then held.at else event_count plan p)

-- each process may take its events that are z or before it
pub record AreLimitsUpTo (plan : Plan) (z : Event) (limits : List ℕ) : Type 0 where
  pub live_or_not : Live plan z ⊎ (Live plan z → ⊥)
  pub clocks : (p : ℕ) → p < process_count plan → IsClockOf plan z p (limit_at limits p)

-- a core that has taken no step
abbrev pub fresh : Scripts → Course
fresh scripts = record { scripts = scripts; history = [] }

-- x has happened in it, and y hasn't
abbrev pub HasOnly : Course → Event → Event → Type 0
HasOnly course x y = IsDone (state_of course) x × (¬ (IsDone (state_of course) y))

-- a core that has run within these limits, if then x has happened and y hasn't
abbrev pub HasRunAhead : Scripts → List ℕ → Event → Event → Option Course → Type 0
HasRunAhead scripts limits x y (Some course) = RunsWithin limits (fresh scripts) course × HasOnly course x y
HasRunAhead scripts limits x y None = (course : Course) × RunsWithin limits (fresh scripts) course × (¬ (HasOnly course x y))

-- the steps of a run, if it was made
abbrev pub steps_of : Option Run → Option (List ℕ)
steps_of run = option_map (λ (r : Run). r.core.history) run

-- a run that goes on from a core, first within these limits, if then y has happened
abbrev pub GoesOn : Course → List ℕ → Event → Option Run → Type 0
GoesOn old limits y (Some run) =
    (mid : Course) × RunsWithin limits old mid × IsDone (state_of mid) y × (later : List ℕ) × (run.core.history ≡ mid.history ++ later)
GoesOn old limits y None = (mid : Course) × RunsWithin limits old mid × (¬ (IsDone (state_of mid) y))

-- these are the runs in which one of the calls is held back
pub record AreHeldRuns (scripts : Scripts) (x y : CallAt) (runs : Runs) : Type 0 where
  pub first : IsHeldRun (plan_of scripts) (first_event (plan_of scripts) x) (first_event (plan_of scripts) y) (steps_of runs.first)
  pub second : IsHeldRun (plan_of scripts) (first_event (plan_of scripts) y) (first_event (plan_of scripts) x) (steps_of runs.second)

-- these are the runs in which only what is needed comes before the calls
pub record AreNeededRuns (scripts : Scripts) (x y : CallAt) (runs : Runs) : Type 0 where
  pub first : IsNeededRun (plan_of scripts) (first_event (plan_of scripts) x) (first_event (plan_of scripts) y) (steps_of runs.first)
  pub second : IsNeededRun (plan_of scripts) (first_event (plan_of scripts) y) (first_event (plan_of scripts) x) (steps_of runs.second)

-- of the needed runs the first ends as the second, and each of them as the held run in which the other call comes first
pub record AreAlikeBeside (scripts : Scripts) (x y : CallAt) (held needed : Runs) : Type 0 where
  pub needed_alike : EndAlikeWhereMade scripts x y (steps_of needed.first) (steps_of needed.second)
  pub held_needed : EndAlikeWhereMade scripts x y (steps_of held.first) (steps_of needed.second)
  pub needed_held : EndAlikeWhereMade scripts x y (steps_of needed.first) (steps_of held.second)
