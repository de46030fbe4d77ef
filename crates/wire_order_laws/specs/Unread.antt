-- Calls that can't matter: a full plan, and a bare one that lacks in place the puts that nobody gets, the commits that then
-- hand over nothing, and, if no call gets at once, the collecting of fences.
use Rattle.std.specs.Prelude.{◌≡◌, ◌≢◌, ℕ, List, Bool, false, Some, ◌⊎◌}
use Rattle.wire_types.specs.declared.Scope.{Scope}
use Rattle.wire_types.specs.declared.Reply.{Reply}
use Rattle.wire_runs.specs.Plan.{Plan, Event, Kind, Put, Commit, Arrive, Get, GetNow, Lookup, Fixed}
use Rattle.wire_runs.specs.Plan.{kind, event_count, node_of}
use Rattle.wire_runs.specs.Puts.{own, stored}
use Rattle.wire_runs.specs.Races.{IsSettled}
use Rattle.wire_runs.specs.Embeddings.{IsNameOf}
use Rattle.wire_order_laws.specs.LessOrder.{IsPublishedOnce}

-- its process puts the key nowhere else
abbrev pub IsOnlyPut : Plan → Event → ℕ → Type 0
IsOnlyPut plan x key = (y : Event) (scope : Scope) → y.proc ≡ x.proc → kind plan y ≡ Some (Put key scope) → y ≡ x

-- some call gets p's key, at once or not
abbrev pub IsGot : Plan → ℕ → ℕ → Type 0
IsGot plan p key = (x : Event) × ((kind plan x ≡ Some (Get p key)) ⊎ (kind plan x ≡ Some (GetNow p key)))

-- some call gets at once
abbrev pub GetsAtOnce : Plan → Type 0
GetsAtOnce plan = (x : Event) × (owner : ℕ) × (key : ℕ) × (kind plan x ≡ Some (GetNow owner key))

-- before the event its process has stored all that it has put
abbrev pub HasStoredAll : Plan → Event → Type 0
HasStoredAll plan x = (key : ℕ) → own plan x.proc key x.at ≡ stored plan x.proc key x.at

-- at x the full plan does k and the bare one l: the same; in place of the only put of a key that nobody gets, and of a
-- commit that hands over nothing, a call whose reply is known from the start; in place of a fence one that doesn't
-- collect, if no call gets at once
pub data IsBareAt (bare full : Plan) (x : Event) (k l : Kind) : Type 0 where
  Same : k ≡ l → IsBareAt bare full x k l
  Unread : (key : ℕ) (scope : Scope) (reply : Reply) → k ≡ Put key scope → l ≡ Fixed reply → IsOnlyPut full x key → ¬ (IsGot bare x.proc key) → IsBareAt bare full x k l
  Empty : (reply : Reply) → k ≡ Commit → l ≡ Fixed reply → HasStoredAll bare x → IsBareAt bare full x k l
  Uncollected : (members : List ℕ) (collect : Bool) → k ≡ Arrive members collect → l ≡ Arrive members false → ¬ (GetsAtOnce bare) → IsBareAt bare full x k l

-- call by call, on the same nodes
pub record IsBare (bare full : Plan) : Type 0 where
  pub counts : (p : ℕ) → event_count bare p ≡ event_count full p
  pub calls : (x : Event) (k l : Kind) → kind full x ≡ Some k → kind bare x ≡ Some l → IsBareAt bare full x k l
  pub nodes : (p : ℕ) → node_of full p ≡ node_of bare p
  pub keeps : full.keep ≡ bare.keep

-- where nothing is found in the bare plan, nothing is found in the full one
abbrev pub BareFinds : Type 0
BareFinds = (bare full : Plan) → IsBare bare full → IsSettled bare → IsSettled full

-- no call gets at once, none puts a key again, and each name is published once, for lookups that wait
pub record CantRace (plan : Plan) : Type 0 where
  pub waits : ¬ (GetsAtOnce plan)
  pub puts : (x : Event) (key : ℕ) (scope : Scope) → kind plan x ≡ Some (Put key scope) → IsOnlyPut plan x key
  pub names : (name : ℕ) → IsNameOf plan name → IsPublishedOnce plan name
  pub lookups : (x : Event) (name : ℕ) → kind plan x ≢ Some (Lookup name)

-- then nothing is found
abbrev pub NothingRaces : Type 0
NothingRaces = (plan : Plan) → CantRace plan → IsSettled plan
