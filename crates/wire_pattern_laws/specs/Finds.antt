-- What a get-now finds, told by the order of calls alone: the status with which it is answered.
use Rattle.std.specs.Prelude.{◌≡◌, ◌≢◌, ℕ, Bool, true, false, Some, is_some, slice_get}
use Rattle.wire_types.specs.declared.Status.{Status}
use Rattle.wire_types.specs.declared.Status.TheVariants as status
use Rattle.wire_runs.specs.Plan.{Plan, Event, GetNow, kind, event_count, node_of, same_node, admits}
use Rattle.wire_runs.specs.State.{Answer, NotFound, ExistsOutside, Duplicate, Reserved, State}
use Rattle.wire_runs.specs.Puts.{own, stored, scope_of}
use Rattle.wire_runs.specs.Step.{IsReachable}
use Rattle.wire_runs.specs.Order.{Stores, Live, Before}
use Rattle.wire_runs.specs.Races.{Delivery, IsOf, Delivers, ComesSurely, IsSettled}
use Rattle.wire_runs.specs.Fate.{Fate, Says, HasFate}
use Rattle.wire_runs.specs.Laws.{HappensBefore}

-- the status that an answer gives
abbrev pub status_of : Answer → Status
status_of NotFound = status.NotFound
status_of ExistsOutside = status.ExistsOutsideScope
status_of Duplicate = status.DuplicateKey
status_of (Reserved reply) = reply.status
status_of answer = status.Success

-- the status where a key is there, or isn't
abbrev pub found_status : Bool → Status
found_status true = status.Success
found_status false = status.NotFound

-- the status where a put is shown, or isn't for the reader's node
abbrev pub shown_status : Bool → Status
shown_status true = status.Success
shown_status false = status.ExistsOutsideScope

-- p's event number i
abbrev pub event_in : ℕ → ℕ → Event
event_in p i = record { proc = p; at = i }

-- a get-now of its process's own key finds it where it has been put
abbrev pub FindsOwn : Plan → Event → (owner key : ℕ) → Status → Type 0
FindsOwn plan get owner key found = found ≡ found_status (is_some (own plan owner key get.at))

-- one on the owner's node finds nothing where no commit that stores the key is before it; and where there is one, live,
-- that it isn't before, it finds what that stores
pub data FindsNear (plan : Plan) (get : Event) (owner key : ℕ) (found : Status) : Type 0 where
  near_nothing : ((i : ℕ) → Stores plan (event_in owner i) key → ¬ (Before plan (event_in owner i) get))
      → found ≡ status.NotFound → FindsNear plan get owner key found
  near_value : (i put : ℕ) → Stores plan (event_in owner i) key → Live plan (event_in owner i)
      → ¬ (Before plan get (event_in owner i)) → stored plan owner key (event_count plan owner) ≡ Some put
      → found ≡ shown_status (admits (scope_of plan owner put) true) → FindsNear plan get owner key found

-- one elsewhere finds nothing where no delivery comes surely; and where there is one, and it is before no event of it,
-- it finds the key
pub data FindsFar (plan : Plan) (get : Event) (owner key : ℕ) (found : Status) : Type 0 where
  far_nothing : ¬ (ComesSurely plan owner key (node_of plan get.proc) get) → found ≡ status.NotFound
      → FindsFar plan get owner key found
  far_value : (delivery : Delivery) → Delivers plan owner key (node_of plan get.proc) delivery
      → ((z : Event) → IsOf plan delivery z → ¬ (Before plan get z)) → found ≡ status.Success
      → FindsFar plan get owner key found

pub data Finds (plan : Plan) (get : Event) (owner key : ℕ) (found : Status) : Type 0 where
  from_own : get.proc ≡ owner → FindsOwn plan get owner key found → Finds plan get owner key found
  from_near : get.proc ≢ owner → same_node plan owner get.proc ≡ true → FindsNear plan get owner key found
      → Finds plan get owner key found
  from_far : get.proc ≢ owner → same_node plan owner get.proc ≡ false → FindsFar plan get owner key found
      → Finds plan get owner key found

-- in a settled plan what a get-now is answered in a run it finds; and a live one finds one thing, and answers with it
-- where its turn comes
pub record SaysWhatItFinds (plan : Plan) (get : Event) (owner key : ℕ) : Type 0 where
  pub answered : (s : State) (a : Answer) → IsReachable plan s → slice_get (s.replies get.proc) get.at ≡ Some a
      → Live plan get × Finds plan get owner key (status_of a)
  pub something : HappensBefore plan → Live plan get → (found : Status) × Finds plan get owner key found
  pub one : Live plan get → (a b : Status) → Finds plan get owner key a → Finds plan get owner key b → a ≡ b
  pub fate : Live plan get → (found : Status) → Finds plan get owner key found → (fate : Fate) → HasFate plan get fate
      → (a : Answer) × (fate ≡ Says a) × (status_of a ≡ found)

abbrev pub FindsAreSaid : Type 0
FindsAreSaid = (plan : Plan) (get : Event) (owner key : ℕ) → IsSettled plan → kind plan get ≡ Some (GetNow owner key)
    → SaysWhatItFinds plan get owner key
