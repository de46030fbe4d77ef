use Rattle.std.proofs.Common.{◌∙◌, ◌+◌, ◌≤◌, map, ap, sym, subst, arith}
use Rattle.std.proofs.lemmas.List.{map_push}
use Rattle.wire_runs.specs.Plan.{process_count}
use Rattle.wire_scripts.specs.Planned.{plan_of}
use Rattle.wire_portable.proofs.Gathered.{AreRowsTo, no_rows, row_added, all_rows}
use Rattle.wire_portable.proofs.commits.all_rows.Goals as goal

pub loop-number-init : goal.loop-number-init
loop-number-init c = subst (AreRowsTo (plan_of c.args.marked.now) 0) (sym (ap (map (λ row. row.items)) c.new-rows.ensures.items)) (no_rows (plan_of c.args.marked.now))

pub loop-number-preserved : goal.loop-number-preserved
loop-number-preserved c =
    let plan = plan_of c.args.marked.now in
    let n = c.loop-number.number in
    subst (AreRowsTo plan (n + 1)) (sym (ap (map (λ row. row.items)) c.in_ok-push.ensures.items ∙ map_push (λ row. row.items) c.loop-number.rows.items _))
    (row_added plan n (n + 1) (map (λ row. row.items) c.loop-number.rows.items) _ (omega arith) c.in_ok-row.ensures c.loop-number.invariant)

pub returns : goal.returns
returns c =
    let over = c.loop-number-test.false in
    let count = rw c.plan.ensures at c.process_count-number-end.ensures in
    let last : process_count (plan_of c.args.marked.now) ≤ c.loop-number.number = omega (arith, over, count) in
    all_rows (plan_of c.args.marked.now) c.loop-number.number (map (λ row. row.items) c.loop-number.rows.items) last c.loop-number.invariant
