use Rattle.std.proofs.Common.{◌≤◌, ◌+◌, ◌∙◌, ap, arith, refl}
use Rattle.wire_runs.specs.Plan.{event_count}
use Rattle.wire_portable.specs.Searched.{Searched, plan_in}
use Rattle.wire_portable.proofs.Added.{one_event, all_events}
use Rattle.wire_portable.proofs.search.Search.add_process.Goals as goal

pub loop-at-preserved : goal.loop-at-preserved
loop-at-preserved c = one_event c.args.self.now c.args.found.now c.loop-at.found c.add_event.new.found c.args.proc.number c.loop-at.at (c.loop-at.at + 1) refl c.loop-at.invariant c.in_ok-add_event.ensures

pub returns : goal.returns
returns c =
    let count = rw (c.plan.ensures ∙ ap (λ (v : Searched). v.scripts) c.self.view_is) at c.event_count-at-end.ensures in
    let over = c.loop-at-test.false in
    let last : event_count (plan_in c.args.self.now) c.args.proc.number ≤ c.loop-at.at = omega (arith, over, count) in
    all_events c.args.self.now c.args.found.now c.loop-at.found c.args.proc.number c.loop-at.at last c.loop-at.invariant
