-- What became of every call in a state: its reply, or how far its process has come.
use Rattle.std.specs.Prelude.{ℕ, zero, suc, ◌-◌, List, [], ◌∷◌, ◌++◌, Bool, true, false, not, ◌&&◌, Option, Some, None}
use Rattle.std.specs.Prelude.{is_some, length, take, map, replicate}
use Rattle.std.specs.Prelude.{nat_lt, slice_get, if◌then◌else◌}
use Rattle.std.specs.List.{flat_map}
use Rattle.wire_runs.specs.Plan.{Plan, Process, Call, kinds_of, process_count, Event}
use Rattle.wire_types.specs.Outcome.{Ends}
use Rattle.wire_types.specs.Replies.{bare, success_with}
use Rattle.wire_types.specs.declared.CallAt.{CallAt}
use Rattle.wire_types.specs.declared.CallEnd.{CallEnd}
use Rattle.wire_types.specs.declared.CallEnd.TheVariants.{Replied, Waiting, Ready, Unreached}
use Rattle.wire_types.specs.declared.Reply.{Reply}
use Rattle.wire_types.specs.declared.Status.TheVariants as status
use Rattle.wire_types.specs.declared.Value.TheVariants as value
use Rattle.wire_runs.specs.State.{Answer, Silent, Success, NotFound, ExistsOutside, Duplicate, Value, Published}
use Rattle.wire_runs.specs.State.{Reserved, State, next_kind}
use Rattle.wire_runs.specs.Step.{is_enabled}

-- how many events a call is
abbrev pub call_size : Call → ℕ
call_size call = length (kinds_of (call ∷ []))

-- the number of the call to which an event belongs, among these calls
abbrev pub call_number : List Call → ℕ → ℕ
call_number [] at = 0
call_number (call ∷ calls) at = if nat_lt at (call_size call) then 0 else suc (call_number calls (at - call_size call))

abbrev pub process_calls : Option Process → List Call
process_calls None = []
process_calls (Some process) = process.calls

abbrev pub calls_of : Plan → ℕ → List Call
calls_of plan p = process_calls (slice_get plan.processes p)

-- the call to which an event belongs
abbrev pub call_of : Plan → Event → CallAt
call_of plan x = record { proc = record { number = x.proc }; call = call_number (calls_of plan x.proc) x.at }

-- the first event of a call: the number of the events of the calls before it
abbrev pub first_event : Plan → CallAt → Event
first_event plan call = record { proc = call.proc.number; at = length (kinds_of (take call.call (calls_of plan call.proc.number))) }

-- the reply that an answer gives to a call; the first half of a fence gives none
abbrev pub given : Plan → Answer → List Reply
given plan Silent = []
given plan Success = bare status.Success ∷ []
given plan NotFound = bare status.NotFound ∷ []
given plan ExistsOutside = bare status.ExistsOutsideScope ∷ []
given plan Duplicate = bare status.DuplicateKey ∷ []
given plan (Value put) = success_with (value.Put (call_of plan put)) ∷ []
given plan (Published publish) = success_with (value.Published (call_of plan publish)) ∷ []
given plan (Reserved reply) = reply ∷ []

-- the replies that a process's calls have got so far
abbrev pub replies_of : Plan → List Answer → List Reply
replies_of plan answers = flat_map (given plan) answers

-- of the call at which a process stands
abbrev pub standing : Bool → CallEnd
standing true = Ready
standing false = Waiting

-- of the n calls that have no reply
abbrev pub unanswered : Bool → ℕ → List CallEnd
unanswered ready zero = []
unanswered ready (suc n) = standing ready ∷ replicate n Unreached

-- of every call of a process
abbrev pub row : Plan → State → ℕ → List CallEnd
row plan s p =
    map Replied (replies_of plan (s.replies p))
    ++ unanswered (is_enabled plan s p) (length (calls_of plan p) - length (replies_of plan (s.replies p)))

-- the process stands at a call, and isn't enabled
abbrev pub is_waiting : Plan → State → ℕ → Bool
is_waiting plan s p = is_some (next_kind plan s p) && not (is_enabled plan s p)

-- of the first n processes
abbrev pub rows_below : Plan → State → ℕ → List (List CallEnd)
rows_below plan s zero = []
rows_below plan s (suc n) = rows_below plan s n ++ row plan s n ∷ []

abbrev pub waiting_below : Plan → State → ℕ → ℕ
waiting_below plan s zero = 0
waiting_below plan s (suc n) = if is_waiting plan s n then suc (waiting_below plan s n) else waiting_below plan s n

abbrev pub outcome : Plan → State → Ends
outcome plan s = record { rows = rows_below plan s (process_count plan); waiting = waiting_below plan s (process_count plan) }
