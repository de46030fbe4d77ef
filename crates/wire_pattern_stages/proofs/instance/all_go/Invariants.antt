use Rattle.std.proofs.Common.{◌≡◌, ◌<◌, ℕ, Some, map}
use Rattle.std.specs.Prelude.{slice_get}
use Rattle.wire_runs.specs.Plan.{Event, event_of}
use Rattle.wire_pattern_stages.specs.Rising.{Goes}
use Rattle.wire_pattern_stages.specs.Tables.{view_key}
use Rattle.wire_pattern_stages.proofs.instance.all_go.Given as goal

abbrev pub invariant-loop-x : goal.invariant-loop-x
invariant-loop-x l = (k : ℕ) (z : Event) → k < l.x-index → slice_get (map event_of l.events) k ≡ Some z → Goes (view_key l.view) z (event_of l.y)
