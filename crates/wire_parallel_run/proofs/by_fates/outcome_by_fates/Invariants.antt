use Rattle.std.proofs.Common.{◌≡◌, ◌≤◌, vec_len}
use Rattle.std.specs.Prelude.{vec_capacity}
use Rattle.wire_types.specs.Texts.{lists_of}
use Rattle.wire_scripts.specs.Planned.{plan_of}
use Rattle.wire_runs.specs.Ends.{rows_below, waiting_below}
use Rattle.wire_runs.specs.Laws.{plain_end}
use Rattle.wire_parallel_run.proofs.by_fates.outcome_by_fates.Given as goal

abbrev pub invariant-loop-number : goal.invariant-loop-number
invariant-loop-number l = record {
  rows : lists_of l.rows.items ≡ rows_below (plan_of l.settled) (plain_end (plan_of l.settled)) l.number;
  count : vec_len l.rows ≡ l.number;
  space : vec_capacity l.rows ≡ l.number-end;
  waiting : l.waiting ≡ waiting_below (plan_of l.settled) (plain_end (plan_of l.settled)) l.number;
  few : l.waiting ≤ l.number;
}
