use Rattle.std.proofs.Common.{◌≡◌, ◌+◌, ◌∙◌, subst, map, suc, arith}
use Rattle.wire_runs.specs.Plan.{event_count}
use Rattle.wire_scripts.specs.Planned.{plan_of}
use Rattle.wire_plan.specs.Meetings.{AreArrivalListsTo}
use Rattle.wire_plan.proofs.Gathering.{process_done}
use Rattle.wire_plan.proofs.meetings.add_process.Goals as goal

pub loop-at-preserved : goal.loop-at-preserved
loop-at-preserved c are =
    let one : suc c.loop-at.at ≡ c.loop-at.at + 1 = omega arith in
    subst (λ k. AreArrivalListsTo c.args.events.now c.args.fences.now c.args.proc.number k (map (λ v. v.items) c.add_event.new.lists.items)) one (c.in_ok-add_event.ensures (c.loop-at.invariant are))

pub returns : goal.returns
returns c are =
    let last : c.loop-at.at ≡ event_count (plan_of c.args.events.now) c.args.proc.number = (omega arith) ∙ c.event_count-at-end.ensures in
    process_done c.args.events.now c.args.fences.now c.args.proc.number (map (λ v. v.items) c.loop-at.lists.items)
    (subst (λ k. AreArrivalListsTo c.args.events.now c.args.fences.now c.args.proc.number k (map (λ v. v.items) c.loop-at.lists.items)) last (c.loop-at.invariant are))
