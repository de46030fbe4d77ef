use Rattle.std.proofs.Common.{◌≡◌, ◌∙◌, ◌≤◌, [], sym, ap, subst, arith}
use Rattle.wire_runs.specs.Plan.{Event, event_count}
use Rattle.wire_runs.proofs.Basics.{event_past}
use Rattle.wire_scripts.specs.Planned.{plan_of}
use Rattle.wire_core.specs.Course.{plan_in, state_of}
use Rattle.wire_standstill.specs.Standstill.{AreWaitedBy}
use Rattle.wire_standstill.proofs.Awaited.{none_awaited}
use Rattle.wire_standstill.proofs.whom.ranks_awaited.Goals as goal

pub returns-else-event-event_count : goal.returns-else-event-event_count
returns-else-event-event_count c =
    let p = c.args.proc.number in
    let at = ap (λ (e : Event). e.at) c.next_event-at.ensures in
    let count = c.event_count.ensures ∙ ap (λ s. event_count (plan_of s) p) c.plan.ensures in
    let past : event_count (plan_in c.args.core.now) p ≤ (state_of c.args.core.now).done p = omega (arith, count, at, c.if-event-event_count.false) in
    subst (AreWaitedBy (plan_in c.args.core.now) (state_of c.args.core.now) p) (sym c.new.ensures.items)
    (none_awaited (plan_in c.args.core.now) (state_of c.args.core.now) p (event_past (plan_in c.args.core.now) p ((state_of c.args.core.now).done p) past))
