use Rattle.std.proofs.Common.{◌≡◌, ◌<◌, ℕ, Some}
use Rattle.wire_runs.specs.Plan.{Get, kind_at}
use Rattle.wire_scripts.specs.Planned.{plan_of}
use Rattle.wire_portable.specs.Phases.{main_of}
use Rattle.wire_portable.proofs.phases.are_within.Given as goal

abbrev pub invariant-loop-number : goal.invariant-loop-number
invariant-loop-number l = (q at p key : ℕ) → q < l.number → kind_at (plan_of l.plan) q at ≡ Some (Get p key) → main_of l.sets q ≡ main_of l.sets p
