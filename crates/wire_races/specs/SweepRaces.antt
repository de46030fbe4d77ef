-- The races between sweeps, the calls that take away all names of their processes: for the contracts of private
-- functions.
use Rattle.std.specs.Prelude.{◌≡◌, ◌⊎◌, ◌↔◌, ◌<◌, ℕ, List, Some, true}
use Rattle.std.specs.List.{Contains}
use Rattle.wire_runs.specs.Plan.{Plan, Event, UnpublishAll, kind, event_count}
use Rattle.wire_runs.specs.Names.{publishes}
use Rattle.wire_runs.specs.Findings.{Finding, NameRace, IsFound}
use Rattle.wire_races.specs.NameRaces.{IsNameRaceWith, IsOneOf}
use Rattle.wire_races.specs.declared.sweep_races.Share.{Share}

-- a race of two sweeps, the lower of process p
pub record IsSweepRaceOf (plan : Plan) (p : ℕ) (f : Finding) : Type 0 where
  pub x : Event
  pub y : Event
  pub name : ℕ
  pub is : f ≡ NameRace x y name
  pub found : IsFound plan f
  pub of_it : x.proc ≡ p
  pub sweeps_x : kind plan x ≡ Some UnpublishAll
  pub sweeps_y : kind plan y ≡ Some UnpublishAll

-- the same of one of the first n processes
abbrev pub IsSweepRaceBelow : Plan → ℕ → Finding → Type 0
IsSweepRaceBelow plan n f = (p : ℕ) × (p < n) × IsSweepRaceOf plan p f

-- a race of two sweeps
abbrev pub IsSweepRace : Plan → Finding → Type 0
IsSweepRace plan f = (p : ℕ) × IsSweepRaceOf plan p f

-- the names that process p publishes
abbrev pub ArePublished : Plan → ℕ → List ℕ → Type 0
ArePublished plan p names = (name : ℕ) → Contains names name ↔ (publishes plan p name (event_count plan p) ≡ true)

-- one of these is the share of process q in the name
abbrev pub HasShare : List Share → ℕ → ℕ → Type 0
HasShare shares q name = (s : Share) × Contains shares s × (s.proc.number ≡ q) × (s.name ≡ name)

-- the shares in the name of those of the processes `qs` that are higher than p are added, and nothing else
pub record AddsShares (p name : ℕ) (qs : List ℕ) (old new : List Share) : Type 0 where
  pub kept : (s : Share) → Contains old s → Contains new s
  pub all : (q : ℕ) → IsOneOf q qs → p < q → HasShare new q name
  pub only : (s : Share) → Contains new s → Contains old s ⊎ ((s.name ≡ name) × (p < s.proc.number) × IsOneOf s.proc.number qs)

-- what p shares of these names with higher processes: each of them publishes the name, and each that does and has a
-- sweep is there
pub record AreShares (plan : Plan) (p : ℕ) (names : List ℕ) (shares : List Share) : Type 0 where
  pub each : (s : Share) → Contains shares s →
      Contains names s.name × (p < s.proc.number) × (publishes plan s.proc.number s.name (event_count plan s.proc.number) ≡ true)
  pub all : (z : Event) (name : ℕ) → kind plan z ≡ Some UnpublishAll → p < z.proc → publishes plan z.proc name (event_count plan z.proc) ≡ true →
      Contains names name → HasShare shares z.proc name

-- process p publishes the name of each share, as the higher process of the share does
abbrev pub AreShared : Plan → ℕ → List Share → Type 0
AreShared plan p shares = (s : Share) → Contains shares s → (p < s.proc.number) × (publishes plan p s.name (event_count plan p) ≡ true)
    × (publishes plan s.proc.number s.name (event_count plan s.proc.number) ≡ true)

-- all are of process q
abbrev pub AreSharesOf : ℕ → List Share → Type 0
AreSharesOf q shares = (s : Share) → Contains shares s → s.proc.number ≡ q

-- a race of x with one of these calls, on the name of one of the shares
abbrev pub IsRaceOnOne : Plan → Event → List Event → List Share → Finding → Type 0
IsRaceOnOne plan x calls shares f = (s : Share) × Contains shares s × IsNameRaceWith plan s.name x calls f

-- a race of x with a sweep of the process of one of these shares, on its name
pub record IsSweepRaceWith (plan : Plan) (x : Event) (shares : List Share) (f : Finding) : Type 0 where
  pub y : Event
  pub s : Share
  pub there : Contains shares s
  pub of_it : y.proc ≡ s.proc.number
  pub sweeps : kind plan y ≡ Some UnpublishAll
  pub is : f ≡ NameRace x y s.name
  pub found : IsFound plan f

-- the same of a sweep of process p
abbrev pub IsSharedRace : Plan → ℕ → List Share → Finding → Type 0
IsSharedRace plan p shares f = (x : Event) × (kind plan x ≡ Some UnpublishAll) × (x.proc ≡ p) × IsSweepRaceWith plan x shares f
