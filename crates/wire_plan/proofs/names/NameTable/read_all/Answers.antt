use Rattle.std.proofs.Common.{◌≡◌, ◌≤◌, ◌+◌, suc, subst, arith}
use Rattle.wire_runs.specs.Plan.{event_count}
use Rattle.wire_scripts.specs.Planned.{plan_of}
use Rattle.wire_plan.specs.Tables.{AreNamesTo}
use Rattle.wire_plan.proofs.Tables.{names_process}
use Rattle.wire_plan.proofs.names.NameTable.read_all.Goals as goal

pub loop-at-preserved : goal.loop-at-preserved
loop-at-preserved c = λ start.
    let next : suc c.loop-at.at ≡ c.loop-at.at + 1 = omega arith in
    subst (λ i. AreNamesTo (plan_of c.args.events.now) c.args.proc.number i c.read.new.self) next
    (c.in_ok-read.ensures (plan_of c.args.events.now) c.args.events.now.sets c.kind.ensures (c.loop-at.invariant start))

pub returns : goal.returns
returns c = λ start.
    let over = c.loop-at-test.false in
    let count = c.event_count-at-end.ensures in
    let last : event_count (plan_of c.args.events.now) c.args.proc.number ≤ c.loop-at.at = omega (arith, over, count) in
    names_process (plan_of c.args.events.now) c.args.proc.number c.loop-at.at c.loop-at.self last (c.loop-at.invariant start)
