-- The gets that come to be made, listed by the owner of the key and the place of the reader: for the contracts of private
-- functions.
use Rattle.std.specs.Prelude.{◌≡◌, ◌≢◌, ◌⊎◌, ◌-◌, ◌^◌, ℕ, List, [], Bool, ◌&&◌, ◌==◌, Option, Some, None, Vec, map, slice_get, if◌then◌else◌}
use Rattle.std.specs.declared.alloc.Global.{Global}
use Rattle.std.specs.HashMap.{get}
use Rattle.wire_runs.specs.Plan.{Plan, Event, Get, kind, node_of, event_of}
use Rattle.wire_runs.specs.Puts.{stored}
use Rattle.wire_runs.specs.EventLists.{IsLower, AreAll}
use Rattle.wire_types.specs.declared.Event.{Event as CodeEvent}
use Rattle.wire_library_laws.specs.Portable.{IsAsked, EndsFirst}
use Rattle.wire_portable.specs.Phases.{phase_of, ArePhases}
use Rattle.wire_portable.specs.declared.gets.GetTable.{GetTable}

-- where a process's gets are listed: by its node, or all together
abbrev pub place_in : Bool → Plan → ℕ → ℕ
place_in together plan q = if together then 0 else node_of plan q

-- z is a get that comes to be made, of a key of p, another process, and is listed at n
pub record IsOpenGet (together : Bool) (plan : Plan) (p n : ℕ) (z : Event) : Type 0 where
  pub key : ℕ
  pub is : kind plan z ≡ Some (Get p key)
  pub other : z.proc ≢ p
  pub asked : IsAsked plan z
  pub there : place_in together plan z.proc ≡ n

abbrev pub AreOpenGets : Bool → Plan → ℕ → ℕ → List Event → Type 0
AreOpenGets together plan p n places = AreAll (IsOpenGet together plan p n) places

-- whether owner and place are the same
abbrev pub is_same : ℕ × ℕ → ℕ × ℕ → Bool
is_same a b = (a.0 == b.0) && (a.1 == b.1)

abbrev pub events_in : Option (Vec CodeEvent Global) → List Event
events_in None = []
events_in (Some list) = map event_of list.items

-- the list of an owner and a place
abbrev pub gets_under : GetTable → ℕ × ℕ → List Event
gets_under table asked = events_in (get is_same table.lists asked)

-- each list has the gets of that owner and that place
abbrev pub AreGetLists : Bool → Plan → GetTable → Type 0
AreGetLists together plan table = (p n : ℕ) → AreOpenGets together plan p n (gets_under table (p, n))

-- the same of those that stand before the i-th event of the q-th process
abbrev pub AreGetsTo : Bool → Plan → ℕ → ℕ → GetTable → Type 0
AreGetsTo together plan q i table =
    (p n : ℕ) → AreAll (λ z. IsOpenGet together plan p n z × IsLower z (record { proc = q; at = i })) (gets_under table (p, n))

-- whether owner, place and phase are the same
abbrev pub is_same_phase : ℕ × ℕ × ℕ → ℕ × ℕ × ℕ → Bool
is_same_phase a b = ((a.0 == b.0) && (a.1 == b.1)) && (a.2 == b.2)

-- the number, or the largest of 32 bits where there is none
abbrev pub number_or_all : Option ℕ → ℕ
number_or_all None = 2 ^ 32 - 1
number_or_all (Some n) = n

-- up to the owner's event of this number none of the keys is there that a list's gets read in a phase; the largest number,
-- where none of them comes
abbrev pub first_under : GetTable → ℕ × ℕ × ℕ → ℕ
first_under table asked = number_or_all (get is_same_phase table.firsts asked)

-- none of p's keys that these read in a phase is there before its n-th event
abbrev pub AreUnreadIn : Plan → List (List ℕ) → ℕ → ℕ → ℕ → List Event → Type 0
AreUnreadIn plan rows phase p n places =
    (k : ℕ) (z : Event) (key : ℕ) → slice_get places k ≡ Some z → phase_of rows z ≡ phase → kind plan z ≡ Some (Get p key) → stored plan p key n ≡ None

-- so it is of each list and each phase
abbrev pub AreFirst : Plan → List (List ℕ) → GetTable → Type 0
AreFirst plan rows table = (p n phase : ℕ) → AreUnreadIn plan rows phase p (first_under table (p, n, phase)) (gets_under table (p, n))

-- each of these reads a key of p that isn't there before its n-th event, or g and this one aren't under way at once
abbrev pub AreUnreadBeside : Plan → ℕ → ℕ → Event → List Event → Type 0
AreUnreadBeside plan p n g places =
    (k : ℕ) (z : Event) (key : ℕ) → slice_get places k ≡ Some z → kind plan z ≡ Some (Get p key) →
    (stored plan p key n ≡ None) ⊎ (EndsFirst plan g z ⊎ EndsFirst plan z g)

-- what a table of a plan holds: for judging it wherever its processes are, or on its nodes
pub record IsGetTable (together : Bool) (plan : Plan) (table : GetTable) : Type 0 where
  pub where_it_is : table.together ≡ together
  pub lists : AreGetLists together plan table
  pub phases : ArePhases plan table.phases.now
  pub firsts : AreFirst plan table.phases.now table
