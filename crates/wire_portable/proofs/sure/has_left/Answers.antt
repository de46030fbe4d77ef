use Rattle.std.proofs.Common.{◌∙◌, ap, sym}
use Rattle.wire_runs.specs.Plan.{event_of}
use Rattle.wire_runs.proofs.Basics.{process_within, event_within}
use Rattle.wire_scripts.specs.Planned.{plan_of}
use Rattle.wire_fates.proofs.Places.{place_at}
use Rattle.wire_portable.proofs.Had.{left_at}
use Rattle.wire_portable.proofs.sure.has_left.Goals as goal

pub node_of-node-requires : goal.node_of-node-requires
node_of-node-requires c = rw c.plan-plan.ensures c.requires.get

pub node_of-there-requires : goal.node_of-there-requires
node_of-there-requires c =
    let its = c.requires.fence.are.only c.loop-arrival.arrival-index _ (place_at c.args.arrivals.now c.loop-arrival.arrival-index _ c.loop-arrival-test.true) in
    rw c.plan-plan.ensures (process_within (plan_of c.args.judge.now) _ _ _ its.is)

pub end_of-end-requires : goal.end_of-end-requires
end_of-end-requires c =
    let its = c.requires.fence.are.only c.loop-arrival.arrival-index _ (place_at c.args.arrivals.now c.loop-arrival.arrival-index _ c.loop-arrival-test.true) in
    rw c.plan-plan.ensures (event_within (plan_of c.args.judge.now) _ _ _ its.is)

pub returns-then-chained : goal.returns-then-chained
returns-then-chained c = λ t. record {
  k = c.loop-arrival.arrival-index;
  arrival = _;
  is = place_at c.args.arrivals.now c.loop-arrival.arrival-index _ c.loop-arrival-test.true;
  there = sym (rw c.plan-plan.ensures at c.node_of-there.ensures) ∙ c.if-there-node.true ∙ (rw c.plan-plan.ensures at c.node_of-node.ensures);
  left = left_at (plan_of c.args.judge.now) (event_of c.args.get) c.end_of-end.result _ _ (ap (λ q. q.number) c.end_of-end.ensures.proc) c.end_of-end.ensures.next
      ((rw c.marked-marked.ensures at c.before-chained.ensures).0 c.if-chained.true);
}
