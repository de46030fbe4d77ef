-- What an event sees and does where exactly what is before it is done: for the contracts of private functions.
use Rattle.std.specs.Prelude.{◌≡◌, ◌≢◌, ◌↔◌, ℕ, List, [], ◌∷◌, true, Option, Some, is_some, slice_get, map}
use Rattle.std.specs.Prelude.{if◌then◌else◌}
use Rattle.wire_types.specs.declared.Reply.{Reply}
use Rattle.wire_runs.specs.Plan.{Plan, Event, Get, event_of, event_count, kind, node_of, same_node}
use Rattle.wire_runs.specs.State.{Success, NotFound, Duplicate, State, IsDone}
use Rattle.wire_runs.specs.Sight.{Sight, held, served, brought, get_sees, get_now_sees}
use Rattle.wire_runs.specs.Puts.{stored}
use Rattle.wire_runs.specs.Step.{is_seen, sight_reply, lookup_reply, is_publisher}
use Rattle.wire_runs.specs.Order.{Before}
use Rattle.wire_runs.specs.Ends.{given}
use Rattle.wire_runs.specs.Fate.{Fate, Waits, Says, fate_in, IsPast, IsNameHistory, left_by}
use Rattle.wire_happens_before.specs.declared.Update.{Update}
use Rattle.wire_fates.specs.declared.fate.Fate.{Fate as Told}
use Rattle.wire_fates.specs.Fates.{fate_told}

-- each get of another's key that is done got what its owner has stored once all its events are done
abbrev pub AreGot : Plan → State → Type 0
AreGot plan s =
    (z : Event) (t key : ℕ) → IsDone s z → kind plan z ≡ Some (Get t key) → z.proc ≢ t →
    slice_get (s.replies z.proc) z.at ≡ Some (sight_reply t (served plan t (same_node plan t z.proc) (stored plan t key (event_count plan t))))

-- it tells what y does in the state of its past
abbrev pub IsFateInPast : Plan → Event → Told → Type 0
IsFateInPast plan y found = (fate_of : Event → Fate) (past : State) → IsPast plan y fate_of past → AreGot plan past →
    found ≡ fate_told plan (fate_in plan past y)

-- the events done in the state are those before y
abbrev pub HasBefore : Plan → Event → State → Type 0
HasBefore plan y s = (z : Event) → IsDone s z ↔ Before plan z y

-- the reply gives what is seen of the owner's key
abbrev pub GivesSight : Plan → ℕ → Sight → Reply → Type 0
GivesSight plan owner sight reply = given plan (sight_reply owner sight) ≡ reply ∷ []

-- what a get that waits for the key sees in its past: something, and the reply gives it
abbrev pub GivesGet : Plan → Event → ℕ → ℕ → Reply → Type 0
GivesGet plan y owner key reply =
    (s : State) → HasBefore plan y s →
    (is_seen (get_sees plan s.done y.proc y.at owner key) ≡ true) × GivesSight plan owner (get_sees plan s.done y.proc y.at owner key) reply

-- the reply gives what a get that is answered at once sees in its past
abbrev pub GivesGetNow : Plan → Event → ℕ → ℕ → Reply → Type 0
GivesGetNow plan y owner key reply = (s : State) → HasBefore plan y s → AreGot plan s → GivesSight plan owner (get_now_sees plan s y.proc y.at owner key) reply

-- the reply gives what the owner's server shows on its node in y's past
abbrev pub GivesServed : Plan → Event → ℕ → ℕ → Reply → Type 0
GivesServed plan y owner key reply = (s : State) → HasBefore plan y s →
    GivesSight plan owner (served plan owner true (stored plan owner key (s.done owner))) reply

-- the reply gives what fences and gets have brought to the node of y in its past
abbrev pub GivesBrought : Plan → Event → ℕ → ℕ → Reply → Type 0
GivesBrought plan y owner key reply = (s : State) → HasBefore plan y s → AreGot plan s →
    GivesSight plan owner (held (brought plan s owner key (node_of plan y.proc))) reply

-- what stands under the name after the calls before y
pub record IsStanding (plan : Plan) (y : Event) (name : ℕ) (found : Option Event) : Type 0 where
  pub calls : List Event
  pub history : IsNameHistory plan y name calls
  pub left : found ≡ left_by plan name calls

-- the events of these calls that can change a name
abbrev pub events_in : List Update → List Event
events_in updates = map (λ u. event_of u.event) updates

-- the replies of calls on a name under which this publish stands, or none
abbrev pub GivesPublish : Option Event → Reply → Type 0
GivesPublish standing reply = (plan : Plan) → given plan (if is_some standing then Duplicate else Success) ≡ reply ∷ []

abbrev pub GivesUnpublish : ℕ → Option Event → Reply → Type 0
GivesUnpublish p standing reply = (plan : Plan) → given plan (if is_publisher p standing then Success else NotFound) ≡ reply ∷ []

abbrev pub GivesLookup : Plan → Option Event → Reply → Type 0
GivesLookup plan standing reply = given plan (lookup_reply standing) ≡ reply ∷ []

-- the fate of a lookup that waits for it
abbrev pub IsFateOfWait : Plan → Option Event → Told → Type 0
IsFateOfWait plan standing found = found ≡ fate_told plan (if is_some standing then Says (lookup_reply standing) else Waits)
