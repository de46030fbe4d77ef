-- What a run of a small plan shows of its events: which are live, and which aren't before which.
use Rattle.std.proofs.Common.{◌≡◌, ℕ, List, true, refl}
use Rattle.wire_runs.specs.Plan.{Plan, Event}
use Rattle.wire_runs.specs.State.{start, next_event, IsDone}
use Rattle.wire_runs.specs.Step.{is_enabled, IsInterleaving, run}
use Rattle.wire_runs.specs.Order.{Live, Before}
use Rattle.wire_runs.proofs.Due.{enabled_is_due}

-- what a run of the plan may do next is live, and what it hasn't done isn't before that
module _ (plan : Plan) (w : List ℕ) (h : IsInterleaving plan start w) (p : ℕ) (e : is_enabled plan (run plan w) p ≡ true) where
  pub live_next : Live plan (next_event (run plan w) p)
  live_next = (enabled_is_due plan (run plan w) p (w, h, refl) e).is_live

  pub done_before : (x : Event) → Before plan x (next_event (run plan w) p) → IsDone (run plan w) x
  done_before = (enabled_is_due plan (run plan w) p (w, h, refl) e).earlier_done
