-- Fences part what those processes do that read each other's keys: for the contracts of private functions. What a process does
-- between two of them is a phase.
use Rattle.std.specs.Prelude.{◌≡◌, ◌<◌, ◌⊎◌, ℕ, List, [], true, Option, Some, None, MatchOption, slice_index_or}
use Rattle.wire_runs.specs.Plan.{Plan, Event, Kind, Get, kind, event_count, process_count, set_of}
use Rattle.wire_runs.specs.Fences.{arrivals, is_member}
use Rattle.wire_library_laws.specs.Portable.{IsAsked, EndsFirst, IsThereFirst}
use Rattle.wire_scripts.specs.Scripts.{Scripts, set_at}
use Rattle.wire_scripts.specs.Planned.{plan_of}

-- the number of an event's phase, by rows
abbrev pub phase_of : List (List ℕ) → Event → ℕ
phase_of rows x = slice_index_or (slice_index_or rows x.proc []) x.at 0

-- x is an event of p, or a get of a key of p
pub data IsOfOwner (plan : Plan) (p : ℕ) (x : Event) : Type 0 where
  owned : (k : Kind) → kind plan x ≡ Some k → x.proc ≡ p → IsOfOwner plan p x
  reads : (key : ℕ) → kind plan x ≡ Some (Get p key) → IsOfOwner plan p x

-- such an event has ended when a get of p's key of a later phase is asked
abbrev pub ArePhases : Plan → List (List ℕ) → Type 0
ArePhases plan rows =
    (p key : ℕ) (x h : Event) → IsOfOwner plan p x → kind plan h ≡ Some (Get p key) → IsAsked plan h → phase_of rows x < phase_of rows h → EndsFirst plan x h

-- p's key is there when another of its keys is asked for, unless that get has ended when g is asked: so it is where the commit
-- is of an earlier phase than g
abbrev pub IsThereUnlessEnded : Plan → ℕ → ℕ → Event → Type 0
IsThereUnlessEnded plan p key g =
    (h : Event) (other : ℕ) → kind plan h ≡ Some (Get p other) → IsAsked plan h → EndsFirst plan h g ⊎ IsThereFirst plan p key h

-- the number of a process's main set, if it has one
abbrev pub main_of : List (Option ℕ) → ℕ → Option ℕ
main_of sets p = slice_index_or sets p None

-- each process is a member of its main set
abbrev pub AreMainSets : Scripts → List (Option ℕ) → Type 0
AreMainSets s sets = (p set : ℕ) → main_of sets p ≡ Some set → is_member (set_of (set_at s.sets set)) p ≡ true

-- whoever reads a key of p has the main set that p has
abbrev pub AreReadWithin : Plan → List (Option ℕ) → Type 0
AreReadWithin plan sets = (h : Event) (p key : ℕ) → kind plan h ≡ Some (Get p key) → main_of sets h.proc ≡ main_of sets p

-- it says at how many fences over these members p has arrived before each of its events
abbrev pub IsPhaseRow : Plan → List ℕ → ℕ → List ℕ → Type 0
IsPhaseRow plan members p row = (at : ℕ) → at < event_count plan p → slice_index_or row at 0 ≡ arrivals plan p members at

-- so it says of a process's main set; it is empty where there is none
abbrev pub IsMainRow : Scripts → ℕ → Option ℕ → List ℕ → Type 0
IsMainRow s p main row = MatchOption main (row ≡ []) (λ set. IsPhaseRow (plan_of s) (set_of (set_at s.sets set)) p row)

-- so they say of all processes
abbrev pub AreMainRows : Scripts → List (Option ℕ) → List (List ℕ) → Type 0
AreMainRows s sets rows = (p : ℕ) → p < process_count (plan_of s) → IsMainRow s p (main_of sets p) (slice_index_or rows p [])
