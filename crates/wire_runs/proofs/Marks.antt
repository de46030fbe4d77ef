-- How a computed set of marks is shown to be the live events.
use Rattle.std.proofs.Common.{◌≡◌, Bool, true}
use Rattle.wire_runs.specs.Plan.{Plan, kind, Event}
use Rattle.wire_runs.specs.Order.{Edge, may_come, Live, live}

-- the live events are in each set that is closed
pub live_least : (plan : Plan) (marked : Event → Bool) → ((y : Event) → may_come plan y (kind plan y) ≡ true → ((x : Event) → Edge plan x y → marked x ≡ true) → marked y ≡ true) → {y : Event} →
    Live plan y → marked y ≡ true
live_least plan marked closed (live may from) = closed _ may (λ x e. live_least plan marked closed (from x e))
