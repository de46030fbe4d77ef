-- The events of a plan, listed by the number of a name or of a process: for the contracts of private functions.
use Rattle.std.specs.Prelude.{◌≡◌, ℕ, List, [], ◌∷◌, Bool, true, false, ◌==◌, Option, Some, None, slice_index_or}
use Rattle.std.specs.Prelude.{MatchOption}
use Rattle.wire_runs.specs.Plan.{Plan, Event, Kind, Publish, Unpublish, UnpublishAll, kind}
use Rattle.wire_types.specs.declared.Event.{Event as CodeEvent}
use Rattle.wire_plan.specs.declared.by_number.Listing.{Listing}
use Rattle.wire_plan.specs.declared.by_number.Listing.TheVariants.{NameCalls, Publishes, Takes, Sweeps}
use Rattle.wire_plan.specs.declared.names.NameTable.{NameTable}
use Rattle.wire_plan.specs.Index.{is_plain_call, AreNameCalls, ArePublishes, AreSweeps}
use Rattle.wire_runs.specs.EventLists.{IsLower, AreAll}

-- whether an event is listed under the number of a name: the calls on it alone, its publishes, or its unpublishes; or
-- under that of its process: the calls that take away all names of the process
abbrev pub is_listed : Plan → Listing → ℕ → Event → Option Kind → Bool
is_listed plan NameCalls name x o = is_plain_call name o
is_listed plan Publishes name x (Some (Publish n)) = n == name
is_listed plan Publishes name x _ = false
is_listed plan Takes name x (Some (Unpublish n)) = n == name
is_listed plan Takes name x _ = false
is_listed plan Sweeps p x (Some UnpublishAll) = x.proc == p
is_listed plan Sweeps p x _ = false

-- whether it is this number
abbrev pub is_this_number : Option ℕ → ℕ → Bool
is_this_number None number = false
is_this_number (Some n) number = n == number

-- the list of a number, empty where the number has none
abbrev pub events_listed : List (List Event) → ℕ → List Event
events_listed lists number = slice_index_or lists number []

-- each number's list has the events of the plan that are listed under it
abbrev pub AreListed : Plan → Listing → List (List Event) → Type 0
AreListed plan listing lists = (number : ℕ) → AreAll (λ x. is_listed plan listing number x (kind plan x) ≡ true) (events_listed lists number)

-- the same of the events that stand before the i-th of the p-th process
abbrev pub AreListedTo : Plan → Listing → ℕ → ℕ → List (List Event) → Type 0
AreListedTo plan listing p i lists =
    (number : ℕ) → AreAll (λ x. (is_listed plan listing number x (kind plan x) ≡ true) × IsLower x (record { proc = p; at = i })) (events_listed lists number)

-- the first, where it stands alone and nothing stands in the second list
abbrev pub only_of : {A : Type 0} → List A → List A → Option A
only_of (x ∷ []) [] = Some x
only_of _ _ = None

-- the publish itself, where its process has no call that takes away all its names
abbrev pub IsUnswept : Plan → CodeEvent → Option CodeEvent → Type 0
IsUnswept plan publish found = MatchOption found ((z : Event) × (z.proc ≡ publish.proc.number) × (kind plan z ≡ Some UnpublishAll))
    (λ x. (x ≡ publish) × ((z : Event) → z.proc ≡ publish.proc.number → kind plan z ≡ Some UnpublishAll → ⊥))

-- the table has the calls on each name alone, of these the publishes and the unpublishes, and the calls of each process
-- that take away all its names
pub record AreNameCallsOf (plan : Plan) (table : NameTable) : Type 0 where
  pub calls : (name : ℕ) → AreNameCalls plan name (events_listed table.calls name)
  pub publishes : (name : ℕ) → ArePublishes plan name (events_listed table.publishes name)
  pub takes : (name : ℕ) → AreAll (λ x. kind plan x ≡ Some (Unpublish name)) (events_listed table.takes name)
  pub sweeps : (p : ℕ) → AreSweeps plan p (events_listed table.sweeps p)

-- the same of the events that stand before the i-th of the p-th process
pub record AreNamesTo (plan : Plan) (p i : ℕ) (table : NameTable) : Type 0 where
  pub calls : AreListedTo plan NameCalls p i table.calls
  pub publishes : AreListedTo plan Publishes p i table.publishes
  pub takes : AreListedTo plan Takes p i table.takes
  pub sweeps : AreListedTo plan Sweeps p i table.sweeps
