use Rattle.std.proofs.Common.{◌≡◌, ◌<◌, ℕ, length}
use Rattle.std.specs.Prelude.{slice_get}
use Rattle.wire_scripts.specs.Planned.{plan_of}
use Rattle.wire_plan.specs.Keys.{IsKeyRow, row_in}
use Rattle.wire_plan.proofs.keys.KeyTable.of.Given as goal

abbrev pub invariant-loop-number : goal.invariant-loop-number
invariant-loop-number l = record {
  count : length l.rows.items ≡ l.number;
  each : (p key : ℕ) → p < l.number → IsKeyRow (plan_of l.events) p key (row_in (slice_get l.rows.items p) key);
}
