-- The races of a get that is answered at once with gets that bring its key to its node: for the contracts of private
-- functions.
use Rattle.std.specs.Prelude.{◌≡◌, ◌<◌, ℕ, List, Some, slice_get}
use Rattle.wire_runs.specs.Plan.{Plan, Event}
use Rattle.wire_runs.specs.Order.{Live, Before}
use Rattle.wire_runs.specs.Races.{GetDelivers}
use Rattle.wire_runs.specs.Findings.{Finding}
use Rattle.wire_races.specs.KeyRaces.{IsRaceOf}

-- z is live, and the get isn't before it
abbrev pub MayRace : Plan → Event → Event → Type 0
MayRace plan z get = Live plan z × ¬ (Before plan get z)

-- the race of the get with z, a get that brings the key to its node, if they race
pub record IsRaceByGet (plan : Plan) (get : Event) (owner key node : ℕ) (z : Event) (f : Finding) : Type 0 where
  pub delivers : GetDelivers plan owner key node z
  pub may : MayRace plan z get
  pub is : IsRaceOf z get owner key f

-- the races of the get with gets that bring the key to the node
abbrev pub AreRacesByGets : Plan → Event → ℕ → ℕ → ℕ → Finding → Type 0
AreRacesByGets plan get owner key node f = (z : Event) × IsRaceByGet plan get owner key node z f

-- the same with the first n of these gets
abbrev pub AreRacesBelow : Plan → Event → ℕ → ℕ → ℕ → List Event → ℕ → Finding → Type 0
AreRacesBelow plan get owner key node gets n f =
    (k : ℕ) × (z : Event) × (k < n) × (slice_get gets k ≡ Some z) × IsRaceByGet plan get owner key node z f
