use Rattle.std.proofs.Common.{subst, map}
use Rattle.wire_runs.specs.Plan.{event_of, node_of}
use Rattle.wire_runs.proofs.Basics.{process_within}
use Rattle.wire_scripts.specs.Map.{job_at}
use Rattle.wire_scripts.specs.Planned.{plan_of}
use Rattle.wire_plan.specs.Index.{IsDelivering}
use Rattle.wire_portable.proofs.Had.{arrives_there, its_arrivals, left_by}
use Rattle.wire_portable.proofs.sure.is_left.Goals as goal

pub node_of-node-requires : goal.node_of-node-requires
node_of-node-requires c = rw c.plan-plan.ensures (process_within (plan_of c.args.judge.now) c.args.get.proc.number c.args.get.at _ c.requires.get.is)

pub next_arrival-requires : goal.next_arrival-requires
next_arrival-requires c = rw c.plan-plan.ensures c.requires.once

pub all_arrivals-arrivals-requires : goal.all_arrivals-arrivals-requires
all_arrivals-arrivals-requires c =
    let next = rw c.plan-plan.ensures at c.in-Some.ensures in
    rw c.plan-plan.ensures (arrives_there (plan_of c.args.judge.now) c.args.asked.owner.number c.args.asked.key c.node_of-node.result c.in-Some.arrival next.proc next.delivers)

pub is_left_itself-requires-clause-fence : goal.is_left_itself-requires-clause-fence
is_left_itself-requires-clause-fence c =
    let next = rw c.plan-plan.ensures at c.in-Some.ensures in
    let d = next.delivers in
    record {
      members = d.members;
      j = d.j;
      are = its_arrivals (plan_of c.args.judge.now) c.args.asked.owner.number c.args.asked.key c.node_of-node.result c.in-Some.arrival (map event_of c.all_arrivals-arrivals.result.now) next.proc d
          (rw c.plan-plan.ensures at c.all_arrivals-arrivals.ensures);
    }

pub returns-then-is_left_itself : goal.returns-then-is_left_itself
returns-then-is_left_itself c = λ t.
    let plan = plan_of c.args.judge.now in
    let p = c.args.asked.owner.number in
    let key = c.args.asked.key in
    let g = event_of c.args.get in
    let node = node_of plan g.proc in
    let next = rw c.plan-plan.ensures at c.in-Some.ensures in
    let places = map event_of c.all_arrivals-arrivals.result.now in
    let d = subst (λ n. IsDelivering plan p key n c.in-Some.arrival.at) (rw c.plan-plan.ensures at c.node_of-node.ensures) next.delivers in
    left_by plan p key g (job_at c.args.judge.now.processes) node c.in-Some.arrival.at d places
    (its_arrivals plan p key node c.in-Some.arrival places next.proc d (rw c.plan-plan.ensures at c.all_arrivals-arrivals.ensures)) (c.is_left_itself.ensures c.if-is_left_itself.true)

pub is_left_there-requires-clause-fence : goal.is_left_there-requires-clause-fence
is_left_there-requires-clause-fence c =
    let next = rw c.plan-plan.ensures at c.in-Some.ensures in
    let d = next.delivers in
    record {
      members = d.members;
      j = d.j;
      are = its_arrivals (plan_of c.args.judge.now) c.args.asked.owner.number c.args.asked.key c.node_of-node.result c.in-Some.arrival (map event_of c.all_arrivals-arrivals.result.now) next.proc d
          (rw c.plan-plan.ensures at c.all_arrivals-arrivals.ensures);
    }

pub returns-then-is_left_there : goal.returns-then-is_left_there
returns-then-is_left_there c = λ t.
    let plan = plan_of c.args.judge.now in
    let p = c.args.asked.owner.number in
    let key = c.args.asked.key in
    let g = event_of c.args.get in
    let node = node_of plan g.proc in
    let next = rw c.plan-plan.ensures at c.in-Some.ensures in
    let places = map event_of c.all_arrivals-arrivals.result.now in
    let d = subst (λ n. IsDelivering plan p key n c.in-Some.arrival.at) (rw c.plan-plan.ensures at c.node_of-node.ensures) next.delivers in
    left_by plan p key g (job_at c.args.judge.now.processes) node c.in-Some.arrival.at d places
    (its_arrivals plan p key node c.in-Some.arrival places next.proc d (rw c.plan-plan.ensures at c.all_arrivals-arrivals.ensures)) (c.is_left_there.ensures c.if-is_left_there.true)
