use Rattle.std.proofs.Common.{◌≡◌, ◌≤◌, ◌+◌, suc, subst, arith}
use Rattle.wire_runs.specs.Plan.{event_count}
use Rattle.wire_scripts.specs.Planned.{plan_of}
use Rattle.wire_anywhere.specs.Gets.{AreGetsTo}
use Rattle.wire_anywhere.proofs.KeptGets.{process_added}
use Rattle.wire_anywhere.proofs.gets.GetTable.add_process.Goals as goal

pub returns : goal.returns
returns c = λ start.
    let over = c.loop-at-test.false in
    let count = c.event_count-at-end.ensures in
    let last : event_count (plan_of c.args.plan.now) c.args.proc.number ≤ c.loop-at.at = omega (arith, over, count) in
    process_added (plan_of c.args.plan.now) c.args.proc.number c.loop-at.at c.loop-at.self last (c.loop-at.invariant start)

pub loop-at-preserved : goal.loop-at-preserved
loop-at-preserved c = λ start.
    let next : suc c.loop-at.at ≡ c.loop-at.at + 1 = omega arith in
    subst (λ i. AreGetsTo (plan_of c.args.plan.now) c.args.proc.number i c.add_event.new.self) next (c.in_ok-add_event.ensures (c.loop-at.invariant start))
