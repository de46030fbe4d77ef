use Rattle.std.proofs.Common.{◌≡◌, ◌≤◌, ◌+◌, suc, subst, arith}
use Rattle.wire_runs.specs.Plan.{process_count}
use Rattle.wire_scripts.specs.Planned.{plan_of}
use Rattle.wire_plan.specs.Tables.{AreNamesTo}
use Rattle.wire_plan.proofs.Tables.{names_plan}
use Rattle.wire_plan.proofs.names.NameTable.of.Goals as goal

pub loop-number-preserved : goal.loop-number-preserved
loop-number-preserved c =
    let next : suc c.loop-number.number ≡ c.loop-number.number + 1 = omega arith in
    let told = rw (c.new.ensures) at c.in_ok-read_all.ensures in
    subst (λ p. AreNamesTo (plan_of c.args.events.now) p 0 c.read_all.new.self) next (told c.loop-number.invariant)

pub returns : goal.returns
returns c =
    let over = c.loop-number-test.false in
    let count = c.process_count-number-end.ensures in
    let last : process_count (plan_of c.args.events.now) ≤ c.loop-number.number = omega (arith, over, count) in
    names_plan (plan_of c.args.events.now) c.loop-number.number c.loop-number.table last c.loop-number.invariant

pub loop-number-init : goal.loop-number-init
loop-number-init c = c.empty-table.ensures (plan_of c.args.events.now)
