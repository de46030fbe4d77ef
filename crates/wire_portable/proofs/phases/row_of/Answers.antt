use Rattle.std.proofs.Common.{◌≤◌, ◌+◌, ◌∙◌, ap, refl, sym, subst, arith}
use Rattle.wire_runs.specs.Plan.{event_count, kind_at, set_of}
use Rattle.wire_runs.specs.Fences.{arrivals_with}
use Rattle.wire_scripts.specs.Scripts.{set_at}
use Rattle.wire_scripts.specs.Planned.{plan_of}
use Rattle.wire_plan.proofs.Planning.{count_fits}
use Rattle.wire_portable.proofs.PhaseRows.{IsRowTo, no_row, row_more, row_whole}
use Rattle.wire_portable.proofs.phases.row_of.Goals as goal

pub loop-at-init : goal.loop-at-init
loop-at-init c =
    let plan = plan_of c.args.plan.now in
    let members = set_of (set_at c.args.plan.now.sets c.args.set) in
    subst (IsRowTo plan members c.args.proc.number 0 0) (sym c.in_ok-row.ensures.items) (no_row plan members c.args.proc.number)

pub count_after-count-requires-clause-fits : goal.count_after-count-requires-clause-fits
count_after-count-requires-clause-fits c =
    let low = c.loop-at.invariant.low in
    let lt = c.loop-at-test.true in
    let count = c.event_count-at-end.ensures in
    let few = count_fits c.args.plan.now c.args.proc.number c.scripts.ensures.sound.counted.few_calls in
    omega (arith, low, lt, count, few)

pub loop-at-preserved : goal.loop-at-preserved
loop-at-preserved c =
    let plan = plan_of c.args.plan.now in
    let members = set_of (set_at c.args.plan.now.sets c.args.set) in
    let p = c.args.proc.number in
    let n = c.loop-at.at in
    subst (IsRowTo plan members p (n + 1) c.count_after-count.result) (sym c.in_ok-push.ensures.items)
    (row_more plan members p n (n + 1) c.loop-at.count c.count_after-count.result c.loop-at.row.items refl
    (c.count_after-count.ensures.counted ∙ ap (λ k. arrivals_with members k (kind_at plan p n)) c.loop-at.invariant.counted) c.count_after-count.ensures.less c.loop-at.invariant)

pub returns : goal.returns
returns c =
    let over = c.loop-at-test.false in
    let count = c.event_count-at-end.ensures in
    let last : event_count (plan_of c.args.plan.now) c.args.proc.number ≤ c.loop-at.at = omega (arith, over, count) in
    row_whole (plan_of c.args.plan.now) (set_of (set_at c.args.plan.now.sets c.args.set)) c.args.proc.number c.loop-at.at c.loop-at.count c.loop-at.row.items last c.loop-at.invariant
