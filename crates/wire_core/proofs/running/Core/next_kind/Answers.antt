use Rattle.std.proofs.Common.{◌≤◌, ap, sym, arith}
use Rattle.wire_runs.specs.Plan.{event_count}
use Rattle.wire_runs.proofs.Basics.{event_past}
use Rattle.wire_scripts.specs.Planned.{plan_of}
use Rattle.wire_core.specs.Course.{state_of}
use Rattle.wire_core.proofs.running.Core.next_kind.Goals as goal

pub returns-else-event-event_count-clause-kind : goal.returns-else-event-event_count-clause-kind
returns-else-event-event_count-clause-kind c =
    let at = ap (λ x. x.at) c.next_event-event.ensures in
    let count = rw (ap (λ course. course.scripts) c.self.view_is) at c.event_count.ensures in
    let over = c.if-event-event_count.false in
    let past : event_count (plan_of c.args.self.now.scripts) c.args.proc.number ≤ (state_of c.args.self.now).done c.args.proc.number = omega (arith, at, count, over) in
    sym (event_past (plan_of c.args.self.now.scripts) c.args.proc.number ((state_of c.args.self.now).done c.args.proc.number) past)
