use Rattle.std.proofs.Common.{◌∙◌, sym}
use Rattle.wire_runs.proofs.Basics.{process_within}
use Rattle.wire_scripts.specs.Planned.{plan_of}
use Rattle.wire_fates.proofs.Places.{place_at}
use Rattle.wire_portable.proofs.sure.has_job_member.Goals as goal

pub node_of-node-requires : goal.node_of-node-requires
node_of-node-requires c = rw c.plan-plan.ensures c.requires.get

pub node_of-there-requires : goal.node_of-there-requires
node_of-there-requires c =
    let its = c.requires.fence.are.only c.loop-arrival.arrival-index _ (place_at c.args.arrivals.now c.loop-arrival.arrival-index _ c.loop-arrival-test.true) in
    rw c.plan-plan.ensures (process_within (plan_of c.args.judge.now) _ _ _ its.is)

pub returns-then-its-job : goal.returns-then-its-job
returns-then-its-job c = λ t.
    let here = c.scripts-scripts.ensures.scripts ∙ c.plan-plan.ensures in
    record {
      k = c.loop-arrival.arrival-index;
      arrival = _;
      is = place_at c.args.arrivals.now c.loop-arrival.arrival-index _ c.loop-arrival-test.true;
      there = sym (rw c.plan-plan.ensures at c.node_of-there.ensures) ∙ c.if-there-node.true ∙ (rw c.plan-plan.ensures at c.node_of-node.ensures);
      same = sym (rw here at c.job_of-its.ensures) ∙ c.if-its-job.true ∙ (rw here at c.job_of-job.ensures);
    }
