-- What a get that waits needs of the owner's commits: for the contracts of private functions.
use Rattle.std.specs.Prelude.{◌≡◌, ◌≢◌, ℕ, List, Bool, true, Option, Some, MatchOption, slice_get}
use Rattle.wire_types.specs.declared.Event.{Event as CodeEvent}
use Rattle.wire_types.specs.declared.Proc.{Proc}
use Rattle.wire_runs.specs.Plan.{Plan, Event, Get, kind, event_of, admits}
use Rattle.wire_runs.specs.Puts.{stored, scope_of}
use Rattle.wire_runs.specs.Order.{Stores, Live}
use Rattle.wire_runs.specs.Races.{IsRewrite}
use Rattle.wire_library_laws.specs.Library.{Family}
use Rattle.wire_library_laws.specs.Portable.{EndsFirst, Lacks, Lacked, IsThereFirst, AreMates}

-- no key is put twice
abbrev pub NoRewrites : Plan → Type 0
NoRewrites plan = (x y : Event) → IsRewrite plan x y → ⊥

-- y doesn't put a key again
abbrev pub IsNoRewrite : Plan → Event → Type 0
IsNoRewrite plan y = (x : Event) → IsRewrite plan x y → ⊥

-- all commits of the owner that come before its key are made when the get is asked; flaky: the one that brings it too
pub record IsEndedNear (family : Family) (plan : Plan) (p key : ℕ) (g : Event) : Type 0 where
  pub first : (commit : Event) → Lacks plan p key commit → EndsFirst plan commit g
  pub flaky : family.flaky ≡ true → (commit : Event) → Lacked plan p key commit → EndsFirst plan commit g

-- what was found, if anything, has ended when g is asked
abbrev pub HasEnded : Plan → Event → Option CodeEvent → Type 0
HasEnded plan g found = MatchOption found (Unit {0}) (λ e. EndsFirst plan (event_of e) g)

-- at_once: the owner's first commit brings the key, or it is there when the get is asked
abbrev pub IsEndedFar : Family → Plan → ℕ → ℕ → Event → Type 0
IsEndedFar family plan p key g = family.at_once ≡ true → (commit : Event) → Lacks plan p key commit → IsThereFirst plan p key g

-- what is found is the live commit that stores the key
abbrev pub IsLiveStore : Plan → Proc → ℕ → Option CodeEvent → Type 0
IsLiveStore plan owner key found =
    MatchOption found ((x : Event) → x.proc ≡ owner.number → Stores plan x key → Live plan x → ⊥)
    (λ x. (x.proc ≡ owner) × Stores plan (event_of x) key × Live plan (event_of x))

-- each put of the key that is stored is for these processes, or none is
abbrev pub AreFor : Plan → ℕ → ℕ → Bool → Bool → Type 0
AreFor plan p key near is = (n u : ℕ) → stored plan p key n ≡ Some u → admits (scope_of plan p u) near ≡ is

-- h is no get of one of p's keys that may answer g too early
abbrev pub IsFineMate : Family → Plan → ℕ → ℕ → Event → Event → Type 0
IsFineMate family plan p key g h = (other_key : ℕ) → kind plan h ≡ Some (Get p other_key) → g.proc ≢ h.proc → AreMates family plan p key other_key g h

-- none of these is
abbrev pub AreFineMates : Family → Plan → ℕ → ℕ → Event → List Event → Type 0
AreFineMates family plan p key g hs = (k : ℕ) (h : Event) → slice_get hs k ≡ Some h → IsFineMate family plan p key g h
