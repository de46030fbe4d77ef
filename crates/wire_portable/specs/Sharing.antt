-- Gets that share a request: for the contracts of private functions.
use Rattle.std.specs.Prelude.{◌≡◌, ◌<◌, ◌⊎◌, ℕ, List, Some, slice_get}
use Rattle.wire_runs.specs.Plan.{Plan, Event, Get, kind}
use Rattle.wire_runs.specs.EventLists.{IsLower}
use Rattle.wire_library_laws.specs.Portable.{IsAsked, EndsFirst, IsThereFirst}

-- h is a get of a key of p, and comes to be made
pub record IsAskedGet (plan : Plan) (p : ℕ) (h : Event) : Type 0 where
  pub key : ℕ
  pub is : kind plan h ≡ Some (Get p key)
  pub asked : IsAsked plan h

-- these are such gets, in process order
pub record AreAskedGets (plan : Plan) (p : ℕ) (hs : List Event) : Type 0 where
  pub each : (k : ℕ) (h : Event) → slice_get hs k ≡ Some h → IsAskedGet plan p h
  pub rising : (k l : ℕ) (y z : Event) → k < l → slice_get hs k ≡ Some y → slice_get hs l ≡ Some z → IsLower y z

-- these are such gets of one process, in their order
pub record AreTurns (plan : Plan) (p : ℕ) (hs : List Event) : Type 0 where
  pub each : (k : ℕ) (h : Event) → slice_get hs k ≡ Some h → IsAskedGet plan p h
  pub rising : (k l : ℕ) (y z : Event) → k < l → slice_get hs k ≡ Some y → slice_get hs l ≡ Some z → (y.proc ≡ z.proc) × (y.at < z.at)

-- g and h share no request that is answered before p's key is there: they are of one process, or g has ended or the key
-- is there when h is asked
abbrev pub IsApart : Plan → ℕ → ℕ → Event → Event → Type 0
IsApart plan p key g h = (h.proc ≡ g.proc) ⊎ (EndsFirst plan g h ⊎ IsThereFirst plan p key h)
