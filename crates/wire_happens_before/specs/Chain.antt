-- The chain that is shown.
use Rattle.std.specs.Prelude.{◌≡◌, ◌⊎◌, ◌<◌, ◌≤◌, ◌++◌, ◌∷◌, [], List, Option, MatchOption}
use Rattle.wire_runs.specs.Plan.{Plan, Event}
use Rattle.wire_runs.specs.Order.{Edge, Before}
use Rattle.wire_runs.specs.Fate.{IsIn}
use Rattle.wire_happens_before.specs.Clocks.{LeadsTo}

-- z stands at w or below it, by process and number
abbrev pub AtMost : Event → Event → Type 0
AtMost z w = (z.proc < w.proc) ⊎ ((z.proc ≡ w.proc) × (z.at ≤ w.at))

-- z is the lowest of y's sources that is x or that x is before
pub record IsStepBack (plan : Plan) (x y z : Event) : Type 0 where
  pub source : Edge plan z y
  pub leads : LeadsTo plan x z
  pub lowest : (w : Event) → Edge plan w y → LeadsTo plan x w → AtMost z w

-- the chain from x to y in which each event but x stands after the lowest of its sources that is x or that x is before
pub data IsShownChain (plan : Plan) (x : Event) : Event → List Event → Type 0 where
  begins : IsShownChain plan x x (x ∷ [])
  goes_on : {y z : Event} {chain : List Event} → IsShownChain plan x z chain → IsStepBack plan x y z → IsShownChain plan x y (chain ++ y ∷ [])

-- two events have one shown chain
abbrev pub OneShown : Type 0
OneShown = (plan : Plan) (x y : Event) (a b : List Event) → Before plan x y → IsShownChain plan x y a → IsShownChain plan x y b → a ≡ b

-- the lowest of these events that is x or that x is before
pub record IsLowest (plan : Plan) (x : Event) (places : List Event) (z : Event) : Type 0 where
  pub source : IsIn z places
  pub leads : LeadsTo plan x z
  pub lowest : (w : Event) → IsIn w places → LeadsTo plan x w → AtMost z w

-- what is known once these events are looked at
abbrev pub Lowest : Plan → Event → List Event → Option Event → Type 0
Lowest plan x places found = MatchOption found ((w : Event) → IsIn w places → LeadsTo plan x w → ⊥) (λ z. IsLowest plan x places z)
