-- What an event does, told by what is before it alone.
use Rattle.std.specs.Prelude.{◌≡◌, ℕ, ◌<◌, ◌≤◌, List, [], ◌∷◌, true, ◌⊎◌, ◌↔◌, Option, Some, None, slice_get}
use Rattle.std.specs.Prelude.{if◌then◌else◌}
use Rattle.wire_runs.specs.Plan.{Plan, kind, event_count, Event}
use Rattle.wire_runs.specs.State.{State, Answer, IsDone}
use Rattle.wire_runs.specs.Names.{writes_name}
use Rattle.wire_runs.specs.Step.{may_do, reply, name_after}
use Rattle.wire_runs.specs.Order.{Edge, Live, Before}

abbrev pub IsIn : Event → List Event → Type 0
IsIn z [] = ⊥
IsIn z (x ∷ xs) = (z ≡ x) ⊎ IsIn z xs

-- each is after all that stand behind it
abbrev pub IsInOrder : Plan → List Event → Type 0
IsInOrder plan [] = Unit {0}
IsInOrder plan (x ∷ xs) = ((z : Event) → IsIn z xs → Before plan z x) × IsInOrder plan xs

-- what these calls leave under the name, the newest first
abbrev pub left_by : Plan → ℕ → List Event → Option Event
left_by plan name [] = None
left_by plan name (x ∷ xs) = name_after (left_by plan name xs) x (kind plan x) name

-- the calls before y that can change the name, in the order of their chains, the newest first
pub record IsNameHistory (plan : Plan) (y : Event) (name : ℕ) (calls : List Event) : Type 0 where
  pub those : (z : Event) → IsIn z calls ↔ (Before plan z y × (writes_name plan name z (kind plan z) ≡ true))
  pub in_order : IsInOrder plan calls

-- what an event does where it comes: what it answers, or that it waits
pub data Fate : Type 0 where
  Waits : Fate
  Says : Answer → Fate

abbrev pub fate_in : Plan → State → Event → Fate
fate_in plan s y = if may_do plan s y (kind plan y) then Says (reply plan s y (kind plan y)) else Waits

-- the state in which exactly what is before y has happened, its replies being these fates
pub record IsPast (plan : Plan) (y : Event) (fate_of : Event → Fate) (s : State) : Type 0 where
  pub cut : (z : Event) → IsDone s z ↔ Before plan z y
  pub names : (n : ℕ) → (calls : List Event) × IsNameHistory plan y n calls × (s.names n ≡ left_by plan n calls)
  pub replies : (z : Event) (a : Answer) → Before plan z y → fate_of z ≡ Says a → slice_get (s.replies z.proc) z.at ≡ Some a

-- an event that isn't live waits. A live one does what it would do in the state of its past, the fates of what is
-- before it being its replies
pub data HasFate (plan : Plan) : Event → Fate → Type 0 where
  dead : {y : Event} {fate : Fate} → ¬ (Live plan y) → fate ≡ Waits → HasFate plan y fate
  told : {y : Event} {fate : Fate} → Live plan y → (fate_of : Event → Fate) → ((z : Event) → Before plan z y → HasFate plan z (fate_of z)) → (past : State) →
      IsPast plan y fate_of past → fate ≡ fate_in plan past y → HasFate plan y fate

-- a cut of a settled plan that can be: of each event in it the sources are in it, and it doesn't wait
pub record IsSoundCut (plan : Plan) (cut : ℕ → ℕ) : Type 0 where
  pub within : (p : ℕ) → cut p ≤ event_count plan p
  pub closed : (x y : Event) → Edge plan x y → y.at < cut y.proc → x.at < cut x.proc
  pub comes : (x : Event) → x.at < cut x.proc → ¬ (HasFate plan x Waits)
