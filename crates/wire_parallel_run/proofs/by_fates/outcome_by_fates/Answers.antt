use Rattle.std.proofs.Common.{◌≡◌, ◌∙◌, ◌+◌, ap, sym, suc, arith, ◌∷◌, [], ◌++◌, cond}
use Rattle.std.proofs.lemmas.List.{map_push}
use Rattle.wire_types.specs.Texts.{lists_of}
use Rattle.wire_scripts.specs.Planned.{plan_of}
use Rattle.wire_runs.specs.Ends.{row, is_waiting, rows_below, waiting_below}
use Rattle.wire_runs.specs.Laws.{plain_end}
use Rattle.wire_parallel_run.proofs.by_fates.outcome_by_fates.Goals.{then-waits, else-waits}
use Rattle.wire_parallel_run.proofs.by_fates.outcome_by_fates.Goals as goal

pub loop-number-preserved : goal.loop-number-preserved
loop-number-preserved c =
    let plan = plan_of c.args.settled.now in
    let n = c.loop-number.number in
    let end = plain_end plan in
    let number = ap (λ p. p.number) c.new.ensures in
    let one : suc n ≡ n + 1 = omega arith in
    let before = c.loop-number.invariant.waiting in
    let few = c.loop-number.invariant.few in
    let told = waiting_below plan end n in
    let waits = c.in_ok-row.ensures.waiting ∙ ap (is_waiting plan end) number in
    record {
      rows = ap lists_of c.push_reserved.ensures.items
          ∙ map_push (λ row. row.items) c.loop-number.rows.items c.in_ok-row.row
          ∙ ap (λ rows. rows ++ c.in_ok-row.row.items ∷ []) c.loop-number.invariant.rows
          ∙ ap (λ row. rows_below plan end n ++ row ∷ []) (c.in_ok-row.ensures.row ∙ ap (row plan end) number)
          ∙ ap (rows_below plan end) one;
      count = c.push_reserved.ensures.len ∙ ap (λ k. k + 1) c.loop-number.invariant.count;
      space = c.push_reserved.ensures.capacity ∙ c.loop-number.invariant.space;
      waiting = elim c.if-waits.branch [
        | then-waits w ↦ w.waiting-is ∙ ap (λ k. k + 1) before ∙ (let up : told + 1 ≡ suc told = omega arith in up)
            ∙ sym (ap (λ b. cond b (suc told) told) (sym waits ∙ w.if-waits.true)) ∙ ap (waiting_below plan end) one
        | else-waits w ↦ w.waiting-is ∙ before ∙ sym (ap (λ b. cond b (suc told) told) (sym waits ∙ w.if-waits.false)) ∙ ap (waiting_below plan end) one
      ];
      few = elim c.if-waits.branch [
        | then-waits w ↦ let is = w.waiting-is in omega (arith, is, few)
        | else-waits w ↦ let is = w.waiting-is in omega (arith, is, few)
      ];
    }
