use Rattle.std.proofs.Common.{◌≡◌, ◌≤◌, ◌+◌, suc, subst, arith}
use Rattle.wire_runs.specs.Plan.{process_count}
use Rattle.wire_scripts.specs.Planned.{plan_of}
use Rattle.wire_plan.specs.Gets.{AreGetsTo}
use Rattle.wire_plan.proofs.KeptGets.{plan_added}
use Rattle.wire_plan.proofs.gets.GetTable.add_all.Goals as goal

pub returns : goal.returns
returns c = λ start.
    let over = c.loop-number-test.false in
    let count = c.process_count-number-end.ensures in
    let last : process_count (plan_of c.args.events.now) ≤ c.loop-number.number = omega (arith, over, count) in
    plan_added (plan_of c.args.events.now) c.loop-number.number c.loop-number.self last (c.loop-number.invariant start)

pub loop-number-preserved : goal.loop-number-preserved
loop-number-preserved c = λ start.
    let next : suc c.loop-number.number ≡ c.loop-number.number + 1 = omega arith in
    let told = rw (c.new.ensures) at c.in_ok-add_process.ensures in
    subst (λ p. AreGetsTo (plan_of c.args.events.now) p 0 c.add_process.new.self) next (told (c.loop-number.invariant start))
