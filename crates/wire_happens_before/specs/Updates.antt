-- The live calls that can change a name, in an order that chains allow, and what stands under the name after each.
use Rattle.std.specs.Prelude.{◌≡◌, ◌≢◌, ◌⊎◌, ◌↔◌, ℕ, ◌-◌, List, [], ◌∷◌, ◌++◌, true, false, Option, Some, None}
use Rattle.std.specs.Prelude.{is_some, if◌then◌else◌, length, option_map, slice_get, slice_index_or}
use Rattle.wire_runs.specs.Plan.{Plan, Event, UnpublishAll, kind, event_of}
use Rattle.wire_runs.specs.Names.{writes_name}
use Rattle.wire_runs.specs.Step.{name_after, is_publisher}
use Rattle.wire_runs.specs.Order.{Before}
use Rattle.wire_runs.specs.Fate.{IsIn, left_by}
use Rattle.wire_happens_before.specs.declared.updates.Update.{Update}

-- the list of a name, empty where the name has none
abbrev pub updates_at : List (List Update) → ℕ → List Update
updates_at lists name = slice_index_or lists name []

abbrev pub standing_after : Option Update → Option Event
standing_after None = None
standing_after (Some update) = option_map event_of update.standing

-- the publish that stands under the name after all of these
abbrev pub standing_in : List Update → Option Event
standing_in updates = standing_after (slice_get updates (length updates - 1))

-- none is before one that stands behind it, and each is there once: the newest first
abbrev pub IsFalling : Plan → List Event → Type 0
IsFalling plan [] = Unit {0}
IsFalling plan (x ∷ xs) = ((z : Event) → IsIn z xs → (Before plan x z → ⊥) × (z ≡ x → ⊥)) × IsFalling plan xs

-- of these calls, the newest first, the updates have those that change what stands under the name, or more of them,
-- each with what stands there after it
abbrev pub AreChanges : Plan → ℕ → List Event → List Update → Type 0
AreChanges plan name [] updates = updates ≡ []
AreChanges plan name (x ∷ xs) updates =
    ((left_by plan name (x ∷ xs) ≡ left_by plan name xs) × AreChanges plan name xs updates)
    ⊎ ((u : Update) × (others : List Update) × (updates ≡ others ++ u ∷ []) × (event_of u.event ≡ x)
    × (option_map event_of u.standing ≡ left_by plan name (x ∷ xs))
    × AreChanges plan name xs others)

-- the calls of which it holds and that can change the name have an order that chains allow, and in this order the
-- updates have those that change what stands there, or more of them
pub record AreUpdates (plan : Plan) (holds : Event → Type 0) (name : ℕ) (updates : List Update) : Type 0 where
  pub calls : List Event
  pub those : (z : Event) → IsIn z calls ↔ (holds z × (writes_name plan name z (kind plan z) ≡ true))
  pub falling : IsFalling plan calls
  pub changes : AreChanges plan name calls updates

-- for the contracts of private functions: what stands after a publish, and after an unpublish by a process
abbrev pub after_publish : Event → Option Event → Option Event
after_publish x before = if is_some before then before else Some x

abbrev pub after_unpublish : ℕ → Option Event → Option Event
after_unpublish p before = if is_publisher p before then None else before

-- for the contracts of private functions: z is at the end of the list now, and there it has what stands after it; and
-- it can change the name, or it took away a publish of its own process
pub record IsUpdateAdded (plan : Plan) (z : Event) (name : ℕ) (old new : List Update) : Type 0 where
  pub update : Update
  pub it : event_of update.event ≡ z
  pub stands : option_map event_of update.standing ≡ name_after (standing_in old) z (kind plan z) name
  pub list : new ≡ old ++ update ∷ []
  pub writes : (writes_name plan name z (kind plan z) ≡ true) ⊎ ((kind plan z ≡ Some UnpublishAll) × (is_publisher z.proc (standing_in old) ≡ true))

-- z is at the end of the list of this name, with what stands there then, and no other list has changed
pub record IsAppended (z : Event) (name : ℕ) (stands : Option Event) (old new : List (List Update)) : Type 0 where
  pub update : Update
  pub it : event_of update.event ≡ z
  pub left : option_map event_of update.standing ≡ stands
  pub list : updates_at new name ≡ updates_at old name ++ update ∷ []
  pub others : (n : ℕ) → n ≢ name → updates_at new n ≡ updates_at old n

-- the list is as it was, and z changes nothing under the name; or z is added
abbrev pub IsUpdateNoted : Plan → Event → ℕ → List Update → List Update → Type 0
IsUpdateNoted plan z name old new = ((new ≡ old) × (name_after (standing_in old) z (kind plan z) name ≡ standing_in old)) ⊎ IsUpdateAdded plan z name old new

-- z takes away what its process published, if that stands there
abbrev pub TakesAway : Event → List Update → List Update → Type 0
TakesAway z old new = (new ≡ old)
    ⊎ ((is_publisher z.proc (standing_in old) ≡ true) × (u : Update) × (event_of u.event ≡ z) × (option_map event_of u.standing ≡ None) × (new ≡ old ++ u ∷ []))

-- nothing of the process stands there
abbrev pub IsCleared : ℕ → List Update → Type 0
IsCleared p updates = is_publisher p (standing_in updates) ≡ false

-- the names of a process
abbrev pub names_at : List (List ℕ) → ℕ → List ℕ
names_at lists p = slice_index_or lists p []

abbrev pub IsNameAmong : ℕ → List ℕ → Type 0
IsNameAmong name names = (k : ℕ) × (slice_get names k ≡ Some name)

-- each process has the names under which one of its publishes stands, and may have others
abbrev pub AreHeld : List (List Update) → List (List ℕ) → Type 0
AreHeld lists held = (name p : ℕ) → is_publisher p (standing_in (updates_at lists name)) ≡ true → IsNameAmong name (names_at held p)
