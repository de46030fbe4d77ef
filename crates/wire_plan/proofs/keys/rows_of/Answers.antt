use Rattle.std.proofs.Common.{◌≡◌, ◌≤◌, ◌<◌, ◌-◌, ℕ, suc, sym, subst, Some, arith}
use Rattle.std.proofs.lemmas.Result.{IfOk-weaker}
use Rattle.std.specs.BTreeMap.{get}
use Rattle.std.specs.Ordering.{nat_cmp}
use Rattle.wire_runs.specs.Plan.{kind_at, event_count}
use Rattle.wire_scripts.specs.Planned.{plan_of}
use Rattle.wire_plan.specs.Keys.{AreRowsFrom, IsKeyRow, row_in}
use Rattle.wire_plan.proofs.KeyRows.{puts_few, rows_done}
use Rattle.wire_plan.proofs.keys.rows_of.Goals as goal

pub take-requires : goal.take-requires
take-requires c = λ key.
    let plan = plan_of c.args.events.now in
    let p = c.args.proc.number in
    let end = event_count plan p in
    let within : c.loop-at.at ≤ end = rw (← c.event_count-at.ensures) (omega arith) in
    let few = puts_few (kind_at plan p) c.loop-at.at end (get nat_cmp c.loop-at.scan.rows) c.loop-at.scan.commit within c.loop-at.invariant key in
    let fits : end < 4294967296 = rw (← c.event_count-at.ensures) (omega arith) in
    let some = c.loop-at-test.true in
    omega (arith, few, fits, some)

pub loop-at-preserved : goal.loop-at-preserved
loop-at-preserved c =
    let plan = plan_of c.args.events.now in
    let p = c.args.proc.number in
    let end = event_count plan p in
    let i = c.loop-at.at - 1 in
    let up : c.loop-at.at ≡ suc i = omega arith in
    let within : i < end = rw (← c.event_count-at.ensures) (omega arith) in
    let before = subst (λ n. AreRowsFrom (kind_at plan p) n end (get nat_cmp c.loop-at.scan.rows) c.loop-at.scan.commit) up c.loop-at.invariant in
    c.in_ok-take.ensures (kind_at plan p) c.args.events.now.sets end c.kind.ensures within before

pub returns : goal.returns
returns c =
    let plan = plan_of c.args.events.now in
    let p = c.args.proc.number in
    let start = c.loop-at-test.false in
    let zero_at : c.loop-at.at ≡ 0 = omega arith in
    IfOk-weaker c.of.result _ (λ rows. (key : ℕ) → IsKeyRow plan p key (row_in (Some rows) key)) (λ rows same key.
    subst (λ entries. IsKeyRow plan p key (row_in (Some entries) key)) (sym same)
    (rows_done plan p (get nat_cmp c.loop-at.scan.rows) c.loop-at.scan.commit
    (subst (λ n. AreRowsFrom (kind_at plan p) n (event_count plan p) (get nat_cmp c.loop-at.scan.rows) c.loop-at.scan.commit) zero_at c.loop-at.invariant) key)) c.of.ensures
