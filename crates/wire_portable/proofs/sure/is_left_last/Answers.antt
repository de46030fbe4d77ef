use Rattle.std.proofs.Common.{◌∙◌, map, sym}
use Rattle.wire_runs.specs.Plan.{event_of}
use Rattle.wire_scripts.specs.Map.{job_at}
use Rattle.wire_scripts.specs.Planned.{plan_of}
use Rattle.wire_portable.proofs.Had.{left_last}
use Rattle.wire_portable.proofs.sure.is_left_last.Goals as goal

pub all_arrivals-requires : goal.all_arrivals-requires
all_arrivals-requires c =
    let own = rw c.plan-plan.ensures at c.in-Some.ensures in
    rw c.plan-plan.ensures (record { members = own.0.brings.members; j = own.0.brings.j; arrival = own.0.brings.arrival })

pub returns-then-its-job : goal.returns-then-its-job
returns-then-its-job c = λ t.
    let plan = plan_of c.args.judge.now in
    let p = c.args.asked.owner.number in
    let own = rw c.plan-plan.ensures at c.in-Some.ensures in
    let those = rw c.plan-plan.ensures at c.all_arrivals.ensures in
    let sent = rw c.plan-plan.ensures at c.is_sent.ensures in
    let here = c.scripts-scripts.ensures.scripts ∙ c.plan-plan.ensures in
    left_last plan p c.args.asked.key (event_of c.args.get) (job_at c.args.judge.now.processes) (event_of c.in-Some.own) (event_of c.in-Some-own_arrival.arrival)
    (map event_of c.all_arrivals.result.now) c.requires.get own.0 those c.in-Some-own_arrival.ensures
    (sym (rw here at c.job_of-its.ensures) ∙ c.if-its-job.true ∙ (rw here at c.job_of-job.ensures)) ((sent c.requires.once).0 t)
