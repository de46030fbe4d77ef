use Rattle.std.proofs.Common.{sym, ap, arith}
use Rattle.wire_runs.specs.Plan.{event_of}
use Rattle.wire_scripts.specs.Planned.{plan_of}
use Rattle.wire_size_laws.specs.Stages.{is_leave}
use Rattle.wire_pattern_stages.proofs.Lists.{past_none}
use Rattle.wire_pattern_stages.proofs.instance.is_leave.Goals as goal

pub returns-then-event-event_count : goal.returns-then-event-event_count
returns-then-event-event_count c =
    let count = c.event_count.ensures in
    let past = c.if-event-event_count.true in
    sym (ap is_leave (past_none (plan_of c.args.plan.now) (event_of c.args.event) (omega (arith, count, past))))
