use Rattle.std.proofs.Common.{◌<◌}
use Rattle.wire_scripts.specs.Planned.{plan_of}
use Rattle.wire_runs.specs.Plan.{Event}
use Rattle.wire_fates.specs.Waiting.{WaitsForEver}
use Rattle.wire_fates.proofs.waiting.none_waits_for_ever.Given as goal

abbrev pub invariant-loop-number : goal.invariant-loop-number
invariant-loop-number l = (y : Event) → y.proc < l.number → ¬ (WaitsForEver (plan_of l.marked) y)
