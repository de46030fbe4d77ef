use Rattle.std.proofs.Common.{◌∙◌, ◌+◌, ◌≤◌, map, ap, sym, subst, arith}
use Rattle.std.proofs.lemmas.List.{map_push}
use Rattle.wire_runs.specs.Plan.{process_count}
use Rattle.wire_scripts.specs.Planned.{plan_of}
use Rattle.wire_portable.specs.Phases.{IsMainRow}
use Rattle.wire_portable.proofs.PhaseRows.{AreMainRowsTo, no_main_rows, main_row_added, main_rows}
use Rattle.wire_portable.proofs.phases.all_rows.Goals as goal

pub loop-number-init : goal.loop-number-init
loop-number-init c =
    subst (AreMainRowsTo c.args.plan.now c.args.sets.now 0) (sym (ap (map (λ row. row.items)) c.new-rows.ensures.items)) (no_main_rows c.args.plan.now c.args.sets.now)

pub main_row-requires : goal.main_row-requires
main_row-requires c = λ set is. c.requires c.loop-number.number set (sym c.set_of_process-main.ensures ∙ is)

pub loop-number-preserved : goal.loop-number-preserved
loop-number-preserved c =
    let s = c.args.plan.now in
    let sets = c.args.sets.now in
    let n = c.loop-number.number in
    subst (AreMainRowsTo s sets (n + 1)) (sym (ap (map (λ row. row.items)) c.in_ok-push.ensures.items ∙ map_push (λ row. row.items) c.loop-number.rows.items _))
    (main_row_added s sets n (n + 1) (map (λ row. row.items) c.loop-number.rows.items) _ (omega arith)
    (subst (λ main. IsMainRow s n main c.in_ok-row.row.items) c.set_of_process-main.ensures c.in_ok-row.ensures) c.loop-number.invariant)

pub returns : goal.returns
returns c =
    let over = c.loop-number-test.false in
    let count = c.process_count-number-end.ensures in
    let last : process_count (plan_of c.args.plan.now) ≤ c.loop-number.number = omega (arith, over, count) in
    main_rows c.args.plan.now c.args.sets.now c.loop-number.number (map (λ row. row.items) c.loop-number.rows.items) last c.loop-number.invariant
