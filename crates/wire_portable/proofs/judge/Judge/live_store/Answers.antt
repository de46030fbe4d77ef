use Rattle.std.proofs.Common.{ap, sym, subst, ◌∙◌}
use Rattle.std.proofs.lemmas.Bool.{true≢false}
use Rattle.wire_runs.specs.Plan.{event_of}
use Rattle.wire_runs.specs.Order.{Live}
use Rattle.wire_scripts.specs.Planned.{plan_of}
use Rattle.wire_plan.proofs.KeyFacts.{stores_once}
use Rattle.wire_portable.proofs.judge.Judge.live_store.Goals as goal

pub returns-else-live : goal.returns-else-live
returns-else-live c = λ x its stores live.
    let plan = plan_of c.args.self.now in
    let found = rw c.self.view_is at c.in-Some.ensures in
    let marks = rw c.self.view_is at c.self.invariant.0 in
    let e = stores_once plan x (event_of c.in-Some.store) c.args.asked.key (its ∙ sym (ap (λ q. q.number) found.0)) stores found.1 in
    true≢false (sym ((c.live.ensures plan marks).1 (subst (Live plan) e live)) ∙ c.if-live.false)
