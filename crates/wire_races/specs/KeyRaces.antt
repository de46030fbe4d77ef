-- The races of a get that is answered at once: for the contracts of private functions.
use Rattle.std.specs.Prelude.{◌≡◌, ◌≢◌, ◌⊎◌, ◌<◌, ◌/◌, ℕ, List, false, Some}
use Rattle.wire_runs.specs.Plan.{Plan, Event, GetNow, kind, process_count, node_of, same_node}
use Rattle.wire_runs.specs.Order.{Live}
use Rattle.wire_runs.specs.Races.{IsPutOnce, ComesSurely}
use Rattle.wire_runs.specs.EventLists.{IsLower}
use Rattle.wire_plan.specs.Index.{IsDelivering}
use Rattle.wire_runs.specs.Findings.{Finding, KeyRace, IsKeyRace}
use Rattle.wire_findings.specs.declared.finding.Finding.{Finding as Told}
use Rattle.wire_races.specs.Pieces.{ArePieces}
use Rattle.wire_fates.specs.Deliveries.{IsLate}

-- the race of two events, the lower of them first
abbrev pub IsRaceOf : Event → Event → ℕ → ℕ → Finding → Type 0
IsRaceOf x y owner key f = (IsLower x y × (f ≡ KeyRace x y owner key)) ⊎ (IsLower y x × (f ≡ KeyRace y x owner key))

-- a race of the get with some event
pub record IsKeyRaceBy (plan : Plan) (get : Event) (f : Finding) : Type 0 where
  pub source : Event
  pub owner : ℕ
  pub key : ℕ
  pub race : IsKeyRace plan source get owner key
  pub is : IsRaceOf source get owner key f

-- n pieces of this size hold all processes
abbrev pub HasPieces : Plan → ℕ → ℕ → Type 0
HasPieces plan size n = (p : ℕ) → p < process_count plan → p / size < n

-- a race of a get of a process of the piece
abbrev pub IsKeyRaceIn : Plan → ℕ → ℕ → Finding → Type 0
IsKeyRaceIn plan size piece f = (y : Event) × IsKeyRaceBy plan y f × (y.proc / size ≡ piece)

-- the pieces tell the races of all gets, each those of its processes
pub record AreKeyPieces (plan : Plan) (pieces : List (List Told)) : Type 0 where
  pub size : ℕ
  pub count : ℕ
  pub enough : HasPieces plan size count
  pub are : ArePieces plan count (IsKeyRaceIn plan size) pieces

-- a live get, answered at once, of a key that another process puts once
pub record IsOpenRead (plan : Plan) (get : Event) (owner key : ℕ) : Type 0 where
  pub is : kind plan get ≡ Some (GetNow owner key)
  pub other : get.proc ≢ owner
  pub once : IsPutOnce plan owner key
  pub get_live : Live plan get

-- the race of the get with the delivery by p's arrival number `at`, if it is one
pub record IsLateBy (plan : Plan) (get : Event) (owner key node at : ℕ) (f : Finding) : Type 0 where
  pub source : Event
  pub delivers : IsDelivering plan owner key node at
  pub late : IsLate plan get (record { proc = owner; at = at }) source
  pub is : IsRaceOf source get owner key f

-- the races of the get with the deliveries by p's first n events
abbrev pub AreLateBelow : Plan → Event → ℕ → ℕ → ℕ → ℕ → Finding → Type 0
AreLateBelow plan get owner key node n f = (at : ℕ) × (at < n) × IsLateBy plan get owner key node at f

-- a live get of another node's key that is put once, and that no delivery brings surely before it
pub record IsUnsure (plan : Plan) (get : Event) (owner key : ℕ) : Type 0 where
  pub opened : IsOpenRead plan get owner key
  pub other : same_node plan owner get.proc ≡ false
  pub not_sure : ¬ (ComesSurely plan owner key (node_of plan get.proc) get)
