-- Plans: processes with their calls, and the events that the calls are made of.
-- Keys, names, nodes and processes are numbers. A value is named by the event that puts it.
use Rattle.std.specs.Prelude.{ℕ, List, [], ◌∷◌, Bool, true, not, Option, Some, None, slice_get, length, ◌==◌, nat_lt}
use Rattle.std.specs.Prelude.{sum_by, if◌then◌else◌}
use Rattle.wire_types.specs.declared.Event.{Event as CodeEvent}
use Rattle.wire_types.specs.declared.Scope.{Scope}
use Rattle.wire_types.specs.declared.Scope.TheVariants.{Local, Remote, Global}
use Rattle.wire_types.specs.declared.Reply.{Reply}

-- an event: the number of its process, and its number among the events of that process, from 0. What it does is its
-- kind
pub record Event : Type 0 where
  pub proc : ℕ
  pub at : ℕ

-- an event as the code has it
abbrev pub event_of : CodeEvent → Event
event_of e = record { proc = e.proc.number; at = e.at }

-- a call. CallUnpublishAll takes away every name that the caller has published, and CallFixed is a call of a reserved
-- key or name, whose reply is known from the start
pub data Call : Type 0 where
  CallPut : (key : ℕ) → Scope → Call
  CallCommit : Call
  CallFence : (members : List ℕ) → (collect : Bool) → Call
  CallGet : (owner key : ℕ) → Call
  CallGetNow : (owner key : ℕ) → Call
  CallPublish : (name : ℕ) → Call
  CallLookup : (name : ℕ) → Call
  CallLookupWait : (name : ℕ) → Call
  CallUnpublish : (name : ℕ) → Call
  CallUnpublishAll : Call
  CallFixed : Reply → Call

-- what an event does: a call, or one of the two halves of a fence over a set of processes
pub data Kind : Type 0 where
  Put : (key : ℕ) → Scope → Kind
  Commit : Kind
  Arrive : (members : List ℕ) → (collect : Bool) → Kind
  Leave : (members : List ℕ) → Kind
  Get : (owner key : ℕ) → Kind
  GetNow : (owner key : ℕ) → Kind
  Publish : (name : ℕ) → Kind
  Lookup : (name : ℕ) → Kind
  LookupWait : (name : ℕ) → Kind
  Unpublish : (name : ℕ) → Kind
  UnpublishAll : Kind
  Fixed : Reply → Kind

pub record Process : Type 0 where
  pub node : ℕ
  pub calls : List Call

-- keep: whether what a get brings to a node stays there, for the get-nows of the node's processes
pub record Plan : Type 0 where
  pub processes : List Process
  pub keep : Bool

abbrev pub process_count : Plan → ℕ
process_count plan = length plan.processes

-- a set of processes: each once, in order
abbrev pub with_member : ℕ → List ℕ → List ℕ
with_member m [] = m ∷ []
with_member m (x ∷ xs) = if nat_lt m x then m ∷ (x ∷ xs) else if m == x then x ∷ xs else x ∷ with_member m xs

abbrev pub set_of : List ℕ → List ℕ
set_of [] = []
set_of (m ∷ ms) = with_member m (set_of ms)

-- the kinds of the events of these calls, in order
abbrev pub kinds_of : List Call → List Kind
kinds_of [] = []
kinds_of (CallPut key scope ∷ calls) = Put key scope ∷ kinds_of calls
kinds_of (CallCommit ∷ calls) = Commit ∷ kinds_of calls
kinds_of (CallFence members collect ∷ calls) = Arrive (set_of members) collect ∷ (Leave (set_of members) ∷ kinds_of calls)
kinds_of (CallGet owner key ∷ calls) = Get owner key ∷ kinds_of calls
kinds_of (CallGetNow owner key ∷ calls) = GetNow owner key ∷ kinds_of calls
kinds_of (CallPublish name ∷ calls) = Publish name ∷ kinds_of calls
kinds_of (CallLookup name ∷ calls) = Lookup name ∷ kinds_of calls
kinds_of (CallLookupWait name ∷ calls) = LookupWait name ∷ kinds_of calls
kinds_of (CallUnpublish name ∷ calls) = Unpublish name ∷ kinds_of calls
kinds_of (CallUnpublishAll ∷ calls) = UnpublishAll ∷ kinds_of calls
kinds_of (CallFixed reply ∷ calls) = Fixed reply ∷ kinds_of calls

abbrev pub process_kinds : Option Process → List Kind
process_kinds None = []
process_kinds (Some process) = kinds_of process.calls

abbrev pub process_node : Option Process → ℕ
process_node None = 0
process_node (Some process) = process.node

-- the kinds of a process's events, none where there is no such process
unfoldable pub kinds : Plan → ℕ → List Kind
kinds plan p = process_kinds (slice_get plan.processes p)

-- the node of a process, 0 where there is no such process
unfoldable pub node_of : Plan → ℕ → ℕ
node_of plan p = process_node (slice_get plan.processes p)

-- the kind of a process's event, by the event's number from 0
unfoldable pub kind_at : Plan → ℕ → ℕ → Option Kind
kind_at plan p i = slice_get (kinds plan p) i

-- how many events a process has
unfoldable pub event_count : Plan → ℕ → ℕ
event_count plan p = length (kinds plan p)

-- how many events all processes have
abbrev pub event_total : Plan → ℕ
event_total plan = sum_by (λ process. length (kinds_of process.calls)) plan.processes

-- what an event does, if there is such an event
abbrev pub kind : Plan → Event → Option Kind
kind plan x = kind_at plan x.proc x.at

abbrev pub same_node : Plan → ℕ → ℕ → Bool
same_node plan p q = node_of plan p == node_of plan q

-- whether a put of this scope is for a process that is, or isn't, on the owner's node
-- (PMIx Standard 5.0, Scope of Put Data)
abbrev pub admits : Scope → Bool → Bool
admits Local same = same
admits Remote same = not same
admits Global same = true

-- the function that is v at p and f elsewhere
abbrev pub update : {A : Type 0} → (ℕ → A) → ℕ → A → ℕ → A
update f p v q = if q == p then v else f q
