use Rattle.std.proofs.Common.{◌≡◌, ◌<◌, ℕ, Some, map}
use Rattle.std.specs.Prelude.{slice_get}
use Rattle.wire_runs.specs.Plan.{Event, event_of}
use Rattle.wire_races.proofs.sweep_races.is_publisher.Given as goal

-- none of the publishes so far is of the process
abbrev pub invariant-loop-publish : goal.invariant-loop-publish
invariant-loop-publish l = (k : ℕ) (z : Event) → k < l.publish-index → slice_get (map event_of l.publishes) k ≡ Some z → z.proc ≡ l.proc.number → ⊥
