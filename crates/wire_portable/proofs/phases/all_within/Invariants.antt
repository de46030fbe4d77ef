use Rattle.std.proofs.Common.{◌≡◌, ◌<◌, ℕ, Some}
use Rattle.wire_runs.specs.Plan.{Get, kind_at}
use Rattle.wire_scripts.specs.Planned.{plan_of}
use Rattle.wire_portable.specs.Phases.{main_of}
use Rattle.wire_portable.proofs.phases.all_within.Given as goal

abbrev pub invariant-loop-at : goal.invariant-loop-at
invariant-loop-at l = (at p key : ℕ) → at < l.at → kind_at (plan_of l.plan) l.proc.number at ≡ Some (Get p key) → main_of l.sets l.proc.number ≡ main_of l.sets p
