use Rattle.std.proofs.Common.{◌≡◌, ◌<◌, ℕ, true}
use Rattle.std.specs.Prelude.{slice_index_or}
use Rattle.wire_runs.specs.Plan.{event_of}
use Rattle.wire_scripts.specs.Planned.{plan_of}
use Rattle.wire_races.specs.Contested.{is_contested}
use Rattle.wire_races.proofs.racing.is_one_contested.Given as goal

-- none of the names so far is contested
abbrev pub invariant-loop-name : goal.invariant-loop-name
invariant-loop-name l = (k d : ℕ) → k < l.name-index → is_contested (plan_of l.plan) (slice_index_or l.names k d) (event_of l.x) (event_of l.y) ≡ true → ⊥
