-- What each event of a plan has to keep for a library that no line has: for the contracts of private functions.
use Rattle.std.specs.Prelude.{◌≡◌, ◌≢◌, ◌<◌, ℕ, true, Option, Some}
use Rattle.wire_runs.specs.Plan.{Event, Kind, Get, GetNow, Publish, Unpublish, UnpublishAll, Fixed, event_count, kind}
use Rattle.wire_runs.specs.Races.{IsRewrite}
use Rattle.wire_library_laws.specs.Portable.{IsAsked}
use Rattle.wire_portable.specs.declared.libraries.Library.{Library}
use Rattle.wire_portable.specs.Fences.{IsPlainArrival}
use Rattle.wire_portable.specs.Judging.{NoRewrites}
use Rattle.wire_portable.specs.Libraries.{family_of}
use Rattle.wire_portable.specs.Named.{FindsFree, FindsOwnName}
use Rattle.wire_portable.specs.Nows.{GetsAreFor, IsFineNow}
use Rattle.wire_portable.specs.Searched.{Searched, plan_in, words_in, IsGetFine}

-- what a get-now has to keep where all gets do
abbrev pub IsNowFine : Searched → Library → ℕ → ℕ → Event → Type 0
IsNowFine v library p key y =
    NoRewrites (plan_in v) → GetsAreFor v.anywhere (plan_in v) → IsFineNow v.anywhere (family_of library) (words_in v library) (plan_in v) p key y

-- what a call that comes to be made has to keep, by its kind
abbrev pub IsCallFine : Searched → Library → Event → Option Kind → Type 0
IsCallFine v library y (Some (Get p key)) = y.proc ≢ p → IsGetFine v.anywhere library (plan_in v) p key y
IsCallFine v library y (Some (GetNow p key)) = y.proc ≢ p → IsNowFine v library p key y
IsCallFine v library y (Some (Publish name)) = FindsFree (plan_in v) name y
IsCallFine v library y (Some (Unpublish name)) = FindsOwnName (plan_in v) name y
IsCallFine v library y (Some UnpublishAll) = (family_of library).star ≡ true
IsCallFine v library y (Some (Fixed r)) = (words_in v library).known y ≡ true
IsCallFine v library y _ = Unit {0}

-- what an event has to keep
pub record IsEventFine (v : Searched) (library : Library) (y : Event) : Type 0 where
  pub put : (x : Event) → IsRewrite (plan_in v) x y → ⊥
  pub arrival : IsPlainArrival library v.scripts v.rows v.sets y
  pub call : IsAsked (plan_in v) y → IsCallFine v library y (kind (plan_in v) y)

-- so do p's first n events, or all events
abbrev pub AreFineTo : Searched → Library → ℕ → ℕ → Type 0
AreFineTo v library p n = (i : ℕ) → i < n → IsEventFine v library (record { proc = p; at = i })

abbrev pub AreAllFine : Searched → Library → Type 0
AreAllFine v library = (y : Event) → y.at < event_count (plan_in v) y.proc → IsEventFine v library y
