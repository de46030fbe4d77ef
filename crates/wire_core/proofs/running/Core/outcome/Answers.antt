use Rattle.std.proofs.Common.{◌≡◌, ◌∙◌, ◌+◌, ap, sym, suc, arith, ◌∷◌, [], ◌++◌, cond}
use Rattle.std.proofs.lemmas.List.{map_push}
use Rattle.wire_types.specs.Texts.{lists_of}
use Rattle.wire_scripts.specs.Planned.{plan_of}
use Rattle.wire_runs.specs.Ends.{is_waiting, row, rows_below, waiting_below}
use Rattle.wire_core.specs.Course.{state_of}
use Rattle.wire_core.proofs.running.Core.outcome.Goals.{then-is_waiting, else-is_waiting}
use Rattle.wire_core.proofs.running.Core.outcome.Goals as goal

pub loop-number-preserved : goal.loop-number-preserved
loop-number-preserved c =
    let plan = plan_of c.args.self.now.scripts in
    let s = state_of c.args.self.now in
    let n = c.loop-number.number in
    let number = ap (λ p. p.number) c.new-proc.ensures in
    let one : suc n ≡ n + 1 = omega arith in
    let before = c.loop-number.invariant.waiting in
    let few = c.loop-number.invariant.few in
    let stands : is_waiting plan s n ≡ c.is_waiting.result = sym (c.is_waiting.ensures ∙ ap (is_waiting plan s) number) in
    record {
      rows = ap lists_of c.push_reserved.ensures.items
          ∙ map_push (λ row. row.items) c.loop-number.rows.items c.in_ok-row.row
          ∙ ap (λ xs. xs ++ c.in_ok-row.row.items ∷ []) c.loop-number.invariant.rows
          ∙ ap (λ r. rows_below plan s n ++ r ∷ []) (c.in_ok-row.ensures.ok ∙ ap (row plan s) number)
          ∙ ap (rows_below plan s) one;
      count = c.push_reserved.ensures.len ∙ ap (λ n. n + 1) c.loop-number.invariant.count;
      space = c.push_reserved.ensures.capacity ∙ c.loop-number.invariant.space;
      waiting = elim c.if-is_waiting.branch [
        | then-is_waiting w ↦ w.waiting-is ∙ ap (λ k. k + 1) before ∙ (let up : waiting_below plan s n + 1 ≡ suc (waiting_below plan s n) = omega arith in up)
            ∙ sym (ap (λ b. cond b (suc (waiting_below plan s n)) (waiting_below plan s n)) (stands ∙ w.if-is_waiting.true)) ∙ ap (waiting_below plan s) one
        | else-is_waiting w ↦ w.waiting-is ∙ before ∙ sym (ap (λ b. cond b (suc (waiting_below plan s n)) (waiting_below plan s n)) (stands ∙ w.if-is_waiting.false)) ∙ ap (waiting_below plan s) one
      ];
      few = elim c.if-is_waiting.branch [
        | then-is_waiting w ↦ let is = w.waiting-is in omega (arith, is, few)
        | else-is_waiting w ↦ let is = w.waiting-is in omega (arith, is, few)
      ];
    }
