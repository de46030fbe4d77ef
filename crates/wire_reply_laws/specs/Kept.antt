-- A plan keeps stages: its events have lines and turns by a cast of a pattern, and these have keys by stages.
use Rattle.std.specs.Prelude.{◌≡◌, suc, ◌<◌, ◌⊎◌, Some, slice_get}
use Rattle.wire_runs.specs.Plan.{Plan, Event, Kind, kind}
use Rattle.wire_runs.specs.Order.{Edge}
use Rattle.wire_runs.specs.Patterns.{Pattern, Cast}
use Rattle.wire_size_laws.specs.Answered.{WaitsForOne}
use Rattle.wire_size_laws.specs.Stages.{Stages, StageKey, labels_of, is_leave, key_in, IsLess}

-- the key of an event of a plan that has the processes and the calls of this cast
abbrev pub plan_key : Stages → Pattern → Cast → Plan → Event → StageKey
plan_key stages pattern cast plan x =
    key_in stages (slice_get cast.roles x.proc) (slice_get (labels_of pattern cast x.proc) x.at) (is_leave (kind plan x)) x.proc

-- the event behind it in its process
abbrev pub next_of : Event → Event
next_of x = record { proc = x.proc; at = suc x.at }

-- each lookup-wait is of a name that is published once and never taken away; no event has a lesser key than the one before
-- it in its process; and what an event waits for has a lesser key, or is earlier in its process
pub record KeepsStages (stages : Stages) (pattern : Pattern) (cast : Cast) (plan : Plan) : Type 0 where
  pub one : WaitsForOne plan
  pub along : (x : Event) (k : Kind) → kind plan (next_of x) ≡ Some k
      → IsLess (plan_key stages pattern cast plan x) (plan_key stages pattern cast plan (next_of x))
      ⊎ (plan_key stages pattern cast plan x ≡ plan_key stages pattern cast plan (next_of x))
  pub across : (x y : Event) → Edge plan x y
      → IsLess (plan_key stages pattern cast plan x) (plan_key stages pattern cast plan y) ⊎ ((x.proc ≡ y.proc) × (x.at < y.at))
