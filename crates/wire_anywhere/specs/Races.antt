-- The races of a get-now on some placing: for the contracts of private functions.
use Rattle.std.specs.Prelude.{◌≡◌, ◌<◌, ℕ, List, Some, slice_get}
use Rattle.wire_runs.specs.Plan.{Plan, Event, Kind, Leave, GetNow, kind, event_count, node_of}
use Rattle.wire_runs.specs.Races.{IsNearRace, GetBringsAway}
use Rattle.wire_runs.specs.Findings.{Finding}
use Rattle.wire_runs.specs.Placings.{HasSurely}
use Rattle.wire_runs.specs.FindingsAnywhere.{PlacementFinding, OnPair, IsPair, IsLeastFar, IsKeyRaceOn}
use Rattle.wire_plan.specs.Index.{IsDelivering}
use Rattle.wire_fates.specs.Deliveries.{IsLate}
use Rattle.wire_races.specs.KeyRaces.{IsRaceOf, IsOpenRead}
use Rattle.wire_anywhere.specs.Adding.{ToldIn}

-- an event that may race with a get-now: a commit, an arrival at a fence, or a get that waits
pub record IsSource (plan : Plan) (x : Event) : Type 0 where
  pub what : Kind
  pub is : kind plan x ≡ Some what
  pub no_leave : (members : List ℕ) → what ≡ Leave members → ⊥
  pub no_get_now : (owner key : ℕ) → what ≡ GetNow owner key → ⊥

-- the race of x and the get-now y, with y's process and another as the pair
pub record IsRaceWith (x y : Event) (owner key other : ℕ) (f : PlacementFinding) : Type 0 where
  pub finding : Finding
  pub lower : ℕ
  pub higher : ℕ
  pub pair : IsPair lower higher y.proc other
  pub race : IsRaceOf x y owner key finding
  pub is : f ≡ OnPair finding lower higher

-- a race of the get-now with some event, on some placing
pub record IsShownBy (plan : Plan) (get : Event) (f : PlacementFinding) : Type 0 where
  pub source : Event
  pub owner : ℕ
  pub key : ℕ
  pub lower : ℕ
  pub higher : ℕ
  pub finding : Finding
  pub on_pair : IsKeyRaceOn plan source get owner key lower higher
  pub race : IsRaceOf source get owner key finding
  pub is : f ≡ OnPair finding lower higher

-- such a race of a get-now of process p
abbrev pub IsShownOf : Plan → ℕ → PlacementFinding → Type 0
IsShownOf plan p = ToldIn (IsShownBy plan) p (event_count plan p)

-- the race with the commit that stores the key, if they race near
pub record IsNearBy (plan : Plan) (get : Event) (owner key : ℕ) (f : PlacementFinding) : Type 0 where
  pub commit : Event
  pub proc : commit.proc ≡ owner
  pub near : IsNearRace plan commit get key
  pub is : IsRaceWith commit get owner key owner f

-- a far race
pub record IsFarBy (plan : Plan) (get : Event) (owner key : ℕ) (f : PlacementFinding) : Type 0 where
  pub source : Event
  pub m : ℕ
  pub far : IsLeastFar plan source get owner key m
  pub is : IsRaceWith source get owner key m f

-- the get-now's process doesn't surely have the key
pub record IsUnsureAnywhere (plan : Plan) (get : Event) (owner key : ℕ) : Type 0 where
  pub opened : IsOpenRead plan get owner key
  pub not_sure : ¬ (HasSurely plan owner key get.proc get)

-- the far race with the fence of the owner's arrival number `at`, if there is one
pub record IsFarAt (plan : Plan) (get : Event) (owner key at : ℕ) (f : PlacementFinding) : Type 0 where
  pub source : Event
  pub m : ℕ
  pub delivers : IsDelivering plan owner key (node_of plan owner) at
  pub late : IsLate plan get (record { proc = owner; at = at }) source
  pub far : IsLeastFar plan source get owner key m
  pub is : IsRaceWith source get owner key m f

-- the far races with fences of the owner's first n events
abbrev pub AreFarBelow : Plan → Event → ℕ → ℕ → ℕ → PlacementFinding → Type 0
AreFarBelow plan get owner key n f = (at : ℕ) × (at < n) × IsFarAt plan get owner key at f

-- the far race with z, a get that brings the key away, if they race
pub record IsFarByGet (plan : Plan) (get : Event) (owner key : ℕ) (z : Event) (f : PlacementFinding) : Type 0 where
  pub brings : GetBringsAway plan owner key z
  pub far : IsLeastFar plan z get owner key z.proc
  pub is : IsRaceWith z get owner key z.proc f

abbrev pub AreFarByGets : Plan → Event → ℕ → ℕ → PlacementFinding → Type 0
AreFarByGets plan get owner key f = (z : Event) × IsFarByGet plan get owner key z f

-- the same with the first n of these gets
abbrev pub AreFarGetsBelow : Plan → Event → ℕ → ℕ → List Event → ℕ → PlacementFinding → Type 0
AreFarGetsBelow plan get owner key gets n f = (k : ℕ) × (z : Event) × (k < n) × (slice_get gets k ≡ Some z) × IsFarByGet plan get owner key z f

-- a race on a key, on some placing
abbrev pub IsShown : Plan → PlacementFinding → Type 0
IsShown plan f = (y : Event) × IsShownBy plan y f
