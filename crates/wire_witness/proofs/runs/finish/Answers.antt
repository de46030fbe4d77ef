use Rattle.std.proofs.Common.{ap, refl}
use Rattle.wire_runs.specs.Plan.{event_total}
use Rattle.wire_runs.specs.PlainRun.{plain_from}
use Rattle.wire_core.specs.Course.{Course, plan_in, state_of}
use Rattle.wire_witness.proofs.Comes.{finished}
use Rattle.wire_witness.proofs.runs.finish.Goals as goal

pub returns-clause-run : goal.returns-clause-run
returns-clause-run c =
    let old = c.args.core in
    let plan = plan_in old in
    finished old c.run_lowest.new.self (plain_from plan (event_total plan) (state_of old)) c.args.first c.args.other
    (record { core = c.run_lowest.new.self; first_end = c.end_of.result; other_end = c.end_of-2.result })
    c.run_lowest.ensures.run c.requires.comes c.history.ensures.legal c.run_lowest.ensures.ended c.end_of.ensures c.end_of-2.ensures refl

pub returns-clause-later : goal.returns-clause-later
returns-clause-later c =
    let old = c.args.core in
    let plan = plan_in old in
    (plain_from plan (event_total plan) (state_of old), ap (λ (course : Course). course.history) c.run_lowest.ensures.run)
