use Rattle.std.proofs.Common.{◌≡◌, ◌∙◌, ◌+◌, ap, sym, suc, length, arith, ◌∷◌, [], ◌++◌, cond}
use Rattle.std.proofs.lemmas.List.{map_push}
use Rattle.std.specs.Prelude.{nat_lt}
use Rattle.wire_types.specs.Texts.{lists_of}
use Rattle.wire_scripts.specs.Planned.{plan_of}
use Rattle.wire_runs.specs.Plan.{event_count}
use Rattle.wire_runs.specs.Ends.{calls_of}
use Rattle.wire_parallel_run.specs.Trails.{trail_of, told_row, told_rows, told_waiting}
use Rattle.wire_parallel_run.proofs.rows.outcome_of_trails.Goals.{then-is_short, else-is_short}
use Rattle.wire_parallel_run.proofs.rows.outcome_of_trails.Goals as goal

pub loop-number-preserved : goal.loop-number-preserved
loop-number-preserved c =
    let plan = plan_of c.args.plan.now in
    let trails = c.args.trails.now in
    let n = c.loop-number.number in
    let number = ap (λ p. p.number) c.new-proc.ensures in
    let trail = c.trail_of-trail.ensures ∙ ap (trail_of trails) number in
    let one : suc n ≡ n + 1 = omega arith in
    let before = c.loop-number.invariant.waiting in
    let few = c.loop-number.invariant.few in
    let told = told_waiting plan trails n in
    let short : nat_lt (length (trail_of trails n)) (event_count plan n) ≡ c.is_short.result =
    sym (c.is_short.ensures ∙ (λ i. nat_lt (length (trail i)) (event_count plan (number i)))) in
    record {
      rows = ap lists_of c.push_reserved.ensures.items
          ∙ map_push (λ row. row.items) c.loop-number.rows.items c.in_ok-row.row
          ∙ ap (λ rows. rows ++ c.in_ok-row.row.items ∷ []) c.loop-number.invariant.rows
          ∙ ap (λ row. told_rows plan trails n ++ row ∷ [])
          (c.in_ok-row.ensures.ok ∙ (λ i. told_row (trail i) ((c.call_count.ensures ∙ ap (λ p. length (calls_of plan p)) number) i)))
          ∙ ap (told_rows plan trails) one;
      count = c.push_reserved.ensures.len ∙ ap (λ k. k + 1) c.loop-number.invariant.count;
      space = c.push_reserved.ensures.capacity ∙ c.loop-number.invariant.space;
      waiting = elim c.if-is_short.branch [
        | then-is_short w ↦ w.waiting-is ∙ ap (λ k. k + 1) before ∙ (let up : told + 1 ≡ suc told = omega arith in up)
            ∙ sym (ap (λ b. cond b (suc told) told) (short ∙ w.if-is_short.true)) ∙ ap (told_waiting plan trails) one
        | else-is_short w ↦ w.waiting-is ∙ before ∙ sym (ap (λ b. cond b (suc told) told) (short ∙ w.if-is_short.false)) ∙ ap (told_waiting plan trails) one
      ];
      few = elim c.if-is_short.branch [
        | then-is_short w ↦ let is = w.waiting-is in omega (arith, is, few)
        | else-is_short w ↦ let is = w.waiting-is in omega (arith, is, few)
      ];
    }
