use Rattle.std.proofs.Common.{ℕ, ◌<◌}
use Rattle.wire_scripts.specs.Planned.{plan_of}
use Rattle.wire_anywhere.specs.Answered.{IsStuck}
use Rattle.wire_anywhere.proofs.answered.first_stuck.Given as goal

abbrev pub invariant-loop-at : goal.invariant-loop-at
invariant-loop-at l = (at : ℕ) → at < l.at → ¬ (IsStuck (plan_of l.marked) (record { proc = l.proc.number; at = at }))
