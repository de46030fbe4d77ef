use Rattle.std.proofs.Common.{map}
use Rattle.wire_runs.specs.Plan.{event_of}
use Rattle.wire_scripts.specs.Planned.{plan_of}
use Rattle.wire_portable.proofs.Had.{arrives_there, its_arrivals, left_itself_by}
use Rattle.wire_portable.proofs.own_calls.has_left.Goals as goal

pub node_of-node-requires : goal.node_of-node-requires
node_of-node-requires c = rw c.plan-plan.ensures c.requires.owner

pub next_arrival-requires : goal.next_arrival-requires
next_arrival-requires c = rw c.plan-plan.ensures c.requires.once

pub all_arrivals-requires : goal.all_arrivals-requires
all_arrivals-requires c =
    let next = rw c.plan-plan.ensures at c.in-Some.ensures in
    rw c.plan-plan.ensures (arrives_there (plan_of c.args.judge.now) c.args.asked.owner.number c.args.asked.key c.node_of-node.result c.in-Some.arrival next.proc next.delivers)

pub returns-then-has_arrived : goal.returns-then-has_arrived
returns-then-has_arrived c = λ t.
    let plan = plan_of c.args.judge.now in
    let p = c.args.asked.owner.number in
    let next = rw c.plan-plan.ensures at c.in-Some.ensures in
    let places = map event_of c.all_arrivals.result.now in
    left_itself_by plan p c.args.asked.key (event_of c.args.get) c.node_of-node.result c.in-Some.arrival.at next.delivers places
    (its_arrivals plan p c.args.asked.key c.node_of-node.result c.in-Some.arrival places next.proc next.delivers (rw c.plan-plan.ensures at c.all_arrivals.ensures))
    (c.has_arrived.ensures c.if-has_arrived.true)
