use Rattle.std.proofs.Common.{◌≡◌, ◌≤◌, ◌<◌, ℕ}
use Rattle.wire_core.specs.Course.{plan_in, state_of}
use Rattle.wire_core.specs.Within.{MayGo}
use Rattle.wire_core.proofs.running.Core.next_within.Given as goal

abbrev pub invariant-loop-number : goal.invariant-loop-number
invariant-loop-number l = record {
  same : l.self ≡ l.fn.self;
  within : l.number ≤ l.number-end;
  none : (p : ℕ) → p < l.number → MayGo (plan_in l.fn.self) l.limits (state_of l.fn.self) p → ⊥;
}
