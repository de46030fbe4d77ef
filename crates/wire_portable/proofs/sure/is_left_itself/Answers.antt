use Rattle.std.proofs.Common.{◌∙◌, sym, map}
use Rattle.wire_runs.specs.Plan.{event_of}
use Rattle.wire_scripts.specs.Map.{job_at}
use Rattle.wire_scripts.specs.Planned.{plan_of}
use Rattle.wire_portable.proofs.Had.{arrived_left, arrived_member}
use Rattle.wire_portable.proofs.sure.is_left_itself.Goals as goal

pub returns-then-has_arrived : goal.returns-then-has_arrived
returns-then-has_arrived c = λ t.
    let plan = plan_of c.args.judge.now in
    let p = c.args.asked.owner.number in
    let key = c.args.asked.key in
    let g = event_of c.args.get in
    let places = map event_of c.args.arrivals.now in
    let here = c.scripts-scripts.ensures.scripts ∙ c.plan-plan.ensures in
    let arrived = c.has_arrived.ensures c.if-has_arrived.true in
    record {
      other = arrived_member plan p key g places (job_at c.args.judge.now.processes) (sym (rw here at c.job_of-own.ensures) ∙ c.if-own-job.true ∙ (rw here at c.job_of-job.ensures)) arrived;
      left = arrived_left plan p key g places c.requires.get c.requires.fence arrived;
    }
