-- Whole fences left out: a full plan, and one that lacks some of its fences in place, each with the calls of all members.
use Rattle.std.specs.Prelude.{◌≡◌, ℕ, suc, List, Bool, true, Some}
use Rattle.wire_types.specs.declared.Reply.{Reply}
use Rattle.wire_runs.specs.Plan.{Plan, Event, Kind, Arrive, Leave, Fixed, kind, event_count, node_of}
use Rattle.wire_runs.specs.Fences.{arrivals}
use Rattle.wire_runs.specs.Races.{IsSettled}

-- the event belongs to a fence that is gone: gone tells of a set and a number j whether the j-th fence over the set is
abbrev pub IsGone : (List ℕ → ℕ → Bool) → Plan → Event → Kind → Type 0
IsGone gone full x (Arrive members collect) = gone members (arrivals full x.proc members (suc x.at)) ≡ true
IsGone gone full x (Leave members) = gone members (arrivals full x.proc members x.at) ≡ true
IsGone gone full x _ = ⊥

abbrev pub SaysCollect : Kind → Type 0
SaysCollect (Arrive members collect) = collect ≡ true
SaysCollect _ = ⊥

-- at x the full plan does k and the other one l: the same; or, where k is of a fence that is gone, and doesn't say collect,
-- a call whose reply is known from the start
pub data IsWithoutAt (gone : List ℕ → ℕ → Bool) (full : Plan) (x : Event) (k l : Kind) : Type 0 where
  Stays : ¬ (IsGone gone full x k) → k ≡ l → IsWithoutAt gone full x k l
  Goes : (reply : Reply) → IsGone gone full x k → ¬ (SaysCollect k) → l ≡ Fixed reply → IsWithoutAt gone full x k l

-- call by call, on the same nodes
pub record IsWithoutFences (gone : List ℕ → ℕ → Bool) (bare full : Plan) : Type 0 where
  pub counts : (p : ℕ) → event_count bare p ≡ event_count full p
  pub calls : (x : Event) (k l : Kind) → kind full x ≡ Some k → kind bare x ≡ Some l → IsWithoutAt gone full x k l
  pub nodes : (p : ℕ) → node_of full p ≡ node_of bare p
  pub keeps : full.keep ≡ bare.keep

-- where nothing is found without these fences, nothing is found with them
abbrev pub FewerFencesFind : Type 0
FewerFencesFind = (gone : List ℕ → ℕ → Bool) (bare full : Plan) → IsWithoutFences gone bare full → IsSettled bare → IsSettled full
