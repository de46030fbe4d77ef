-- Replies, and the state of a run.
use Rattle.std.specs.Prelude.{ℕ, ◌<◌, List, [], Option, None}
use Rattle.wire_runs.specs.Plan.{Plan, Kind, kind_at, Event}
use Rattle.wire_types.specs.declared.Reply.{Reply}

pub data Answer : Type 0 where
  Silent : Answer
  Success : Answer
  NotFound : Answer
  ExistsOutside : Answer
  Duplicate : Answer
  Value : (put : Event) → Answer
  Published : (publish : Event) → Answer
  Reserved : Reply → Answer

-- how many events of each process are done, the publish that set each name, and each process's replies so far
pub record State : Type 0 where
  pub done : ℕ → ℕ
  pub names : ℕ → Option Event
  pub replies : ℕ → List Answer

abbrev pub start : State
start = record { done = λ p. 0; names = λ n. None; replies = λ p. [] }

-- p's next event
abbrev pub next_event : State → ℕ → Event
next_event s p = record { proc = p; at = s.done p }

abbrev pub next_kind : Plan → State → ℕ → Option Kind
next_kind plan s p = kind_at plan p (s.done p)

-- the event has happened
abbrev pub IsDone : State → Event → Type 0
IsDone s x = x.at < s.done x.proc
