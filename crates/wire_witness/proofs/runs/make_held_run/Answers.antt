use Rattle.wire_runs.specs.Plan.{event_of}
use Rattle.wire_witness.proofs.Made.{held_run_some, held_run_none}
use Rattle.wire_witness.proofs.runs.make_held_run.Goals as goal

pub returns-in-Some-clause-made : goal.returns-in-Some-clause-made
returns-in-Some-clause-made c =
    held_run_some c.args.plan.now c.args.first c.args.other (event_of c.first_event-x.result) (event_of c.first_event-held.result) c.in_ok-limits.limits.items c.as_slice.result.now c.in-Some.core
    c.finish.result c.first_event-x.ensures c.first_event-held.ensures c.in_ok-limits.ensures c.as_slice.ensures.value c.requires.other_there (rw c.in-Some.is at c.in_ok-core.ensures.within)
    (rw c.in-Some.is at c.in_ok-core.ensures.scripts) c.finish.ensures.later c.finish.ensures.run

pub returns-clause-made : goal.returns-clause-made
returns-clause-made c =
    held_run_none c.args.plan.now c.args.first c.args.other (event_of c.first_event-x.result) (event_of c.first_event-held.result) c.in_ok-limits.limits.items c.as_slice.result.now
    c.first_event-x.ensures c.first_event-held.ensures c.in_ok-limits.ensures c.as_slice.ensures.value c.requires.other_there (rw c.in-None.is at c.in_ok-core.ensures.within)
