use Rattle.wire_runs.specs.Plan.{event_of}
use Rattle.wire_witness.proofs.Made.{needed_run_some, needed_run_none}
use Rattle.wire_witness.proofs.runs.make_needed_run.Goals as goal

pub returns-in-Some-clause-made : goal.returns-in-Some-clause-made
returns-in-Some-clause-made c =
    needed_run_some c.args.marked.now c.plan-plan.result.now c.args.first c.args.other (event_of c.first_event-x.result) (event_of c.first_event-y.result) c.in_ok-limits.limits.items
    c.in_ok-later.later.items c.as_slice.result.now c.as_slice-in-Some.result.now c.in-Some.core c.finish_after.result c.plan-plan.ensures c.first_event-x.ensures c.first_event-y.ensures
    c.in_ok-limits.ensures c.in_ok-later.ensures c.as_slice.ensures.value c.as_slice-in-Some.ensures.value (rw c.in-Some.is at c.in_ok-core.ensures.within)
    (rw c.in-Some.is at c.in_ok-core.ensures.scripts) c.finish_after.ensures.goes_on c.finish_after.ensures.run

pub returns-clause-made : goal.returns-clause-made
returns-clause-made c =
    needed_run_none c.args.marked.now c.plan-plan.result.now c.args.first c.args.other (event_of c.first_event-x.result) (event_of c.first_event-y.result) c.in_ok-limits.limits.items
    c.as_slice.result.now c.plan-plan.ensures c.first_event-x.ensures c.first_event-y.ensures c.in_ok-limits.ensures c.as_slice.ensures.value
    (rw c.in-None.is at c.in_ok-core.ensures.within)
