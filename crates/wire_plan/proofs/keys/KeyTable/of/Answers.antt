use Rattle.std.proofs.Common.{rules, ◌≡◌, ◌<◌, ◌∙◌, ℕ, subst, arith}
use Rattle.std.specs.Prelude.{slice_get}
use Rattle.wire_runs.specs.Plan.{process_count}
use Rattle.wire_scripts.specs.Planned.{plan_of}
use Rattle.wire_plan.specs.Keys.{IsKeyRow, row_in}
use Rattle.wire_plan.proofs.KeyRows.{table_done, table_push}
use Rattle.wire_plan.proofs.keys.KeyTable.of.Goals as goal

pub returns : goal.returns
returns c = λ p key.
    let plan = plan_of c.args.events.now in
    let rows = c.loop-number.rows.items in
    let end : c.loop-number.number ≡ process_count plan = rw (← c.process_count-number-end.ensures) (omega arith) in
    table_done plan rows (c.loop-number.invariant.count ∙ end)
    (subst (λ n. (q k : ℕ) → q < n → IsKeyRow plan q k (row_in (slice_get rows q) k)) end c.loop-number.invariant.each) p key

pub loop-number-preserved : goal.loop-number-preserved
loop-number-preserved c =
    let rows = c.loop-number.rows.items in
    record {
      count = search rules;
      each = λ p key lt. rw c.in_ok-push.ensures.items (table_push (plan_of c.args.events.now) rows c.in_ok-rows_of.field-0 c.loop-number.number c.loop-number.invariant.count
          c.loop-number.invariant.each c.in_ok-rows_of.ensures p key lt);
    }
