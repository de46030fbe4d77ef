-- The findings on names, and where the calls stand that race with one call: for the contracts of private functions.
use Rattle.std.specs.Prelude.{◌≡◌, ◌≢◌, ◌⊎◌, ◌↔◌, ◌<◌, ◌≤◌, ℕ, List, ◌++◌, Some, true, nat_lt, slice_get, if◌then◌else◌}
use Rattle.wire_runs.specs.Plan.{Plan, Event, UnpublishAll, kind, event_count}
use Rattle.wire_runs.specs.Names.{publishes, writes_name, calls_name}
use Rattle.wire_runs.specs.Order.{Live, Before}
use Rattle.wire_runs.specs.EventLists.{IsLower, AreAll}
use Rattle.wire_plan.specs.Index.{is_plain_call}
use Rattle.wire_runs.specs.Fate.{IsIn}
use Rattle.wire_runs.specs.Races.{IsUnordered}
use Rattle.wire_runs.specs.Findings.{Finding, NameRace, IsFound}
use Rattle.wire_races.specs.declared.call_races.Border.{Border}
use Rattle.wire_races.specs.declared.call_races.Border.TheVariants.{FirstNotBefore, FirstAfter}

-- a race on the name, the lower call first: one of the two at least is on this name alone
pub record IsRaceOn (plan : Plan) (name : ℕ) (f : Finding) : Type 0 where
  pub x : Event
  pub y : Event
  pub is : f ≡ NameRace x y name
  pub found : IsFound plan f
  pub plain : (is_plain_call name (kind plan x) ≡ true) ⊎ (is_plain_call name (kind plan y) ≡ true)

-- the same of calls on this name alone
pub record IsPlainRaceOn (plan : Plan) (name : ℕ) (f : Finding) : Type 0 where
  pub x : Event
  pub y : Event
  pub is : f ≡ NameRace x y name
  pub found : IsFound plan f
  pub plain_x : is_plain_call name (kind plan x) ≡ true
  pub plain_y : is_plain_call name (kind plan y) ≡ true

-- a race on the name of the call x with a higher one on this name alone
pub record IsRaceFrom (plan : Plan) (name : ℕ) (x : Event) (f : Finding) : Type 0 where
  pub y : Event
  pub is : f ≡ NameRace x y name
  pub found : IsFound plan f
  pub plain : is_plain_call name (kind plan y) ≡ true

-- two calls of different processes, the lower first
abbrev pub race_between : Event → Event → ℕ → Finding
race_between x y name = if nat_lt x.proc y.proc then NameRace x y name else NameRace y x name

-- a race on the name of the call x with one of these calls
pub record IsNameRaceWith (plan : Plan) (name : ℕ) (x : Event) (calls : List Event) (f : Finding) : Type 0 where
  pub y : Event
  pub there : IsIn y calls
  pub is : f ≡ race_between x y name
  pub found : IsFound plan f

-- each of these calls races with x on the name
abbrev pub AllRace : Plan → ℕ → Event → List Event → Type 0
AllRace plan name x calls = (k : ℕ) (z : Event) → slice_get calls k ≡ Some z → IsFound plan (race_between x z name)

-- the lower ones come first
abbrev pub AreRising : List Event → Type 0
AreRising calls = (k l : ℕ) (y z : Event) → k < l → slice_get calls k ≡ Some y → slice_get calls l ≡ Some z → IsLower y z

-- calls on the name, the lower first
pub record AreCallsOn (plan : Plan) (name : ℕ) (calls : List Event) : Type 0 where
  pub each : (k : ℕ) (z : Event) → slice_get calls k ≡ Some z → calls_name plan name z (kind plan z) ≡ true
  pub rising : AreRising calls

-- all are of the process
abbrev pub AreOf : ℕ → List Event → Type 0
AreOf p calls = (k : ℕ) (z : Event) → slice_get calls k ≡ Some z → z.proc ≡ p

-- all are of one process
abbrev pub IsStretch : List Event → Type 0
IsStretch calls = (p : ℕ) × AreOf p calls

-- calls on the name of other processes than that of x: each of them may change the name, or x may
pub record AreRivals (plan : Plan) (name : ℕ) (x : Event) (calls : List Event) : Type 0 where
  pub calls_on : AreCallsOn plan name calls
  pub others : (k : ℕ) (z : Event) → slice_get calls k ≡ Some z → x.proc ≢ z.proc
  pub change : (k : ℕ) (z : Event) → slice_get calls k ≡ Some z → (writes_name plan name x (kind plan x) ≡ true)
      ⊎ (writes_name plan name z (kind plan z) ≡ true)

-- all are calls of higher processes than that of x, and on the name alone
abbrev pub AreHigher : Plan → ℕ → Event → List Event → Type 0
AreHigher plan name x calls = (k : ℕ) (z : Event) → slice_get calls k ≡ Some z → (x.proc < z.proc) × (is_plain_call name (kind plan z) ≡ true)

-- each higher call on the name alone that races with x is among these
abbrev pub HasRivals : Plan → ℕ → Event → List Event → Type 0
HasRivals plan name x calls = (y : Event) → is_plain_call name (kind plan y) ≡ true → IsFound plan (NameRace x y name) → IsIn y calls

-- the calls on the name alone that may change it
abbrev pub AreWriters : Plan → ℕ → List Event → Type 0
AreWriters plan name places = AreAll (λ z. (is_plain_call name (kind plan z) ≡ true) × (writes_name plan name z (kind plan z) ≡ true)) places

-- the rest of the calls are those of higher processes than p
pub record IsAbove (p : ℕ) (calls rest : List Event) : Type 0 where
  pub front : List Event
  pub parts : calls ≡ front ++ rest
  pub lower : (k : ℕ) (z : Event) → slice_get front k ≡ Some z → z.proc ≤ p
  pub higher : (k : ℕ) (z : Event) → slice_get rest k ≡ Some z → p < z.proc

-- whether a call stands below a border of the calls that may race with x
abbrev pub IsBelow : Plan → Event → Border → Event → Type 0
IsBelow plan x FirstNotBefore y = Before plan y x
IsBelow plan x FirstAfter y = Live plan y × (Before plan x y → ⊥)

-- those of the calls that no chain orders with x
abbrev pub AreThoseUnordered : Plan → Event → List Event → List Event → Type 0
AreThoseUnordered plan x calls those = (z : Event) → IsIn z those ↔ (IsIn z calls × IsUnordered plan x z)

-- the calls of another process than that of x that take away all its names
abbrev pub AreFacing : Plan → Event → ℕ → List Event → Type 0
AreFacing plan x p places = AreAll (λ z. (z.proc ≡ p) × (kind plan z ≡ Some UnpublishAll) × (x.proc ≢ z.proc)) places

-- it is one of these
abbrev pub IsOneOf : ℕ → List ℕ → Type 0
IsOneOf p ps = (k : ℕ) × (slice_get ps k ≡ Some p)

-- these processes publish the name, and each that publishes it and can take away all its names is among them
pub record AreSweepers (plan : Plan) (name : ℕ) (ps : List ℕ) : Type 0 where
  pub each : (k p : ℕ) → slice_get ps k ≡ Some p → publishes plan p name (event_count plan p) ≡ true
  pub all : (z : Event) → kind plan z ≡ Some UnpublishAll → publishes plan z.proc name (event_count plan z.proc) ≡ true → IsOneOf z.proc ps

-- a race on the name of the call x with a call of one of these processes that takes away all its names
pub record IsSweptRace (plan : Plan) (name : ℕ) (x : Event) (ps : List ℕ) (f : Finding) : Type 0 where
  pub y : Event
  pub sweeps : kind plan y ≡ Some UnpublishAll
  pub there : IsOneOf y.proc ps
  pub is : f ≡ race_between x y name
  pub found : IsFound plan f

-- the same of one of these calls
abbrev pub IsSweptAmong : Plan → ℕ → List Event → List ℕ → Finding → Type 0
IsSweptAmong plan name calls ps f = (x : Event) × IsIn x calls × IsSweptRace plan name x ps f

-- a race of two calls, the lower first: one is on this name alone, and the other takes away all names of its process
pub record IsSweptRaceOn (plan : Plan) (name : ℕ) (f : Finding) : Type 0 where
  pub x : Event
  pub y : Event
  pub is : f ≡ NameRace x y name
  pub found : IsFound plan f
  pub sorts : ((is_plain_call name (kind plan x) ≡ true) × (kind plan y ≡ Some UnpublishAll))
      ⊎ ((kind plan x ≡ Some UnpublishAll) × (is_plain_call name (kind plan y) ≡ true))
