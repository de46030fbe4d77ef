use Rattle.std.proofs.Common.{◌≡◌, ◌+◌, ◌∙◌, subst, map, suc, arith}
use Rattle.wire_runs.specs.Plan.{process_count}
use Rattle.wire_scripts.specs.Planned.{plan_of}
use Rattle.wire_plan.specs.Meetings.{AreArrivalListsTo}
use Rattle.wire_plan.proofs.Gathering.{all_done}
use Rattle.wire_plan.proofs.meetings.Meetings.of.Goals as goal

pub loop-number-preserved : goal.loop-number-preserved
loop-number-preserved c =
    let one : suc c.loop-number.number ≡ c.loop-number.number + 1 = omega arith in
    subst (λ k. AreArrivalListsTo c.args.events.now c.args.fences.now k 0 (map (λ v. v.items) c.add_process.new.lists.items)) one (c.in_ok-add_process.ensures c.loop-number.invariant)

pub returns : goal.returns
returns c =
    let last : c.loop-number.number ≡ process_count (plan_of c.args.events.now) = (omega arith) ∙ c.process_count-number-end.ensures in
    all_done c.args.events.now c.args.fences.now (map (λ v. v.items) c.loop-number.arrivals.items)
    (subst (λ k. AreArrivalListsTo c.args.events.now c.args.fences.now k 0 (map (λ v. v.items) c.loop-number.arrivals.items)) last c.loop-number.invariant)
