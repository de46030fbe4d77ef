use Rattle.std.proofs.Common.{◌≡◌, ◌≤◌, vec_len}
use Rattle.std.specs.Prelude.{vec_capacity}
use Rattle.wire_types.specs.Texts.{lists_of}
use Rattle.wire_scripts.specs.Planned.{plan_of}
use Rattle.wire_parallel_run.specs.Trails.{told_rows, told_waiting}
use Rattle.wire_parallel_run.proofs.rows.outcome_of_trails.Given as goal

abbrev pub invariant-loop-number : goal.invariant-loop-number
invariant-loop-number l = record {
  rows : lists_of l.rows.items ≡ told_rows (plan_of l.plan) l.trails l.number;
  count : vec_len l.rows ≡ l.number;
  space : vec_capacity l.rows ≡ l.number-end;
  waiting : l.waiting ≡ told_waiting (plan_of l.plan) l.trails l.number;
  few : l.waiting ≤ l.number;
}
