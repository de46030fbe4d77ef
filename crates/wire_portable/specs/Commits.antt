-- The live commits of each process, and the last of some: for the contracts of private functions.
use Rattle.std.specs.Prelude.{◌≡◌, ◌<◌, ◌≤◌, ℕ, List, [], Option, Some, MatchOption, map, slice_get, slice_index_or}
use Rattle.wire_types.specs.declared.Event.{Event as CodeEvent}
use Rattle.wire_runs.specs.Plan.{Plan, Event, Commit, kind, event_of}
use Rattle.wire_runs.specs.Order.{Live}
use Rattle.wire_runs.specs.EventLists.{AreAll}

-- x is a live commit of p
pub record IsLiveCommit (plan : Plan) (p : ℕ) (x : Event) : Type 0 where
  pub is : kind plan x ≡ Some Commit
  pub its : x.proc ≡ p
  pub is_live : Live plan x

abbrev pub AreCommitsOf : Plan → ℕ → List Event → Type 0
AreCommitsOf plan p places = AreAll (IsLiveCommit plan p) places

-- these are events of p, the earlier first
pub record AreOfOneRising (p : ℕ) (places : List Event) : Type 0 where
  pub its : (k : ℕ) (x : Event) → slice_get places k ≡ Some x → x.proc ≡ p
  pub rising : (k l : ℕ) (x y : Event) → k < l → slice_get places k ≡ Some x → slice_get places l ≡ Some y → x.at < y.at

-- each row has those of its process
abbrev pub AreCommitRows : Plan → List (List CodeEvent) → Type 0
AreCommitRows plan rows = (p : ℕ) → AreCommitsOf plan p (map event_of (slice_index_or rows p []))

-- what is found, if anything, is the last commit of which it holds
abbrev pub IsLastOf : (Event → Type 0) → Option CodeEvent → Type 0
IsLastOf holds found = MatchOption found ((x : Event) → holds x → ⊥) (λ e. holds (event_of e) × ((x : Event) → holds x → x.at ≤ e.at))

-- x is a live commit of p, before its event number n
abbrev pub IsCommitBelow : Plan → ℕ → ℕ → Event → Type 0
IsCommitBelow plan p n x = IsLiveCommit plan p x × (x.at < n)
