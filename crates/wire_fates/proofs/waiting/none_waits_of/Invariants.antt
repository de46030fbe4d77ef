use Rattle.std.proofs.Common.{ℕ, ◌<◌}
use Rattle.wire_scripts.specs.Planned.{plan_of}
use Rattle.wire_fates.specs.Waiting.{WaitsForEver}
use Rattle.wire_fates.proofs.waiting.none_waits_of.Given as goal

abbrev pub invariant-loop-at : goal.invariant-loop-at
invariant-loop-at l = (at : ℕ) → at < l.at → ¬ (WaitsForEver (plan_of l.marked) (record { proc = l.proc.number; at = at }))
