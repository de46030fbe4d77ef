-- What processes that aren't ready wait for, and what an event brings: for the contracts of private functions.
use Rattle.std.specs.Prelude.{◌≡◌, ◌<◌, ℕ, List, Bool, true, false, Option, Some, None, length, ◌==◌, slice_index_or}
use Rattle.std.specs.Prelude.{if◌then◌else◌}
use Rattle.wire_types.specs.declared.Proc.{Proc}
use Rattle.wire_runs.specs.Plan.{Event, Kind, kind, process_count}
use Rattle.wire_runs.specs.Plan as plan
use Rattle.wire_runs.specs.State.{State, next_event}
use Rattle.wire_runs.specs.Step.{may_do, is_enabled}
use Rattle.wire_scripts.specs.Scripts.{Scripts}
use Rattle.wire_scripts.specs.Planned.{plan_of}
use Rattle.wire_fence.specs.declared.FenceId.{FenceId}
use Rattle.wire_fence.specs.FenceTable.{FenceTable}
use Rattle.wire_fence.specs.Arrivals.{missing_at}
use Rattle.wire_plan.specs.Meetings.{IsMet}
use Rattle.wire_core.specs.declared.waits.Awaited.{Awaited}
use Rattle.wire_core.specs.declared.waits.Awaited.TheVariants.{Unknown, Commit, Fence, Publish, Nothing}

abbrev pub is_known_wait : Awaited → Bool
is_known_wait Unknown = false
is_known_wait _ = true

-- whether what comes is the thing that is awaited
abbrev pub is_same_thing : Awaited → Awaited → Bool
is_same_thing (Commit p) (Commit q) = p.number == q.number
is_same_thing (Fence f) (Fence g) = f.number == g.number
is_same_thing (Publish n) (Publish m) = n == m
is_same_thing _ _ = false

-- what is known of a wait after this came
abbrev pub after : Awaited → Awaited → Awaited
after comes awaited = if is_same_thing comes awaited then Unknown else awaited

-- what the event at x waits for: until that comes, no event of another process makes it possible
abbrev pub Awaits : Scripts → FenceTable → Event → Awaited → Type 0
Awaits s table x Unknown = ⊥
Awaits s table x (Commit owner) = (key : ℕ) × (kind (plan_of s) x ≡ Some (plan.Get owner.number key))
Awaits s table x (Fence fence) = IsMet s table x fence.number × ((members : List ℕ) × (kind (plan_of s) x ≡ Some (plan.Leave members)))
Awaits s table x (Publish name) = kind (plan_of s) x ≡ Some (plan.LookupWait name)
Awaits s table x Nothing = (state other : State) → may_do (plan_of s) state x (kind (plan_of s) x) ≡ may_do (plan_of s) other x (kind (plan_of s) x)

-- what an event of this process and kind brings that may be awaited: the arrival at this fence, with these members
-- missing afterwards, or an event of another kind
abbrev pub coming : Proc → Option FenceId → List ℕ → Kind → Awaited
coming p (Some fence) missing e = if missing_at missing fence.number == 0 then Fence fence else Unknown
coming p None missing plan.Commit = Commit p
coming p None missing (plan.Publish name) = Publish name
coming p None missing _ = Unknown

-- what is noted of p is so: p isn't enabled, and its next event awaits this
abbrev pub IsNoteTrue : Scripts → FenceTable → State → ℕ → Awaited → Type 0
IsNoteTrue s table state p awaited = is_known_wait awaited ≡ true → (is_enabled (plan_of s) state p ≡ false) × Awaits s table (next_event state p) awaited

-- the notes of all processes. Of a process that has none nothing is known
pub record AreNotesTrue (s : Scripts) (table : FenceTable) (state : State) (notes : List Awaited) : Type 0 where
  pub count : length notes ≡ process_count (plan_of s)
  pub each : (p : ℕ) → IsNoteTrue s table state p (slice_index_or notes p Unknown)

-- of the process of this number nothing is known, and of each before it something is
pub record IsFirst (notes : List Awaited) (n : ℕ) : Type 0 where
  pub below : (p : ℕ) → p < n → is_known_wait (slice_index_or notes p Unknown) ≡ true
  pub here : is_known_wait (slice_index_or notes n Unknown) ≡ false

-- nothing is known of any process
abbrev pub AreUnknown : List Awaited → Type 0
AreUnknown notes = (p : ℕ) → is_known_wait (slice_index_or notes p Unknown) ≡ false
