use Rattle.std.proofs.Common.{◌∙◌, sym, map}
use Rattle.std.proofs.lemmas.Bool.{true≢false}
use Rattle.wire_runs.specs.Plan.{event_of}
use Rattle.wire_scripts.specs.Planned.{plan_of}
use Rattle.wire_fates.proofs.Arrivals.{may_there, may_live, may_none_after}
use Rattle.wire_fates.proofs.fence_deliveries.may_be_late.Goals as goal

pub returns-then-all_live : goal.returns-then-all_live
returns-then-all_live c =
    let plan = plan_of c.args.marked.now in
    let get = event_of c.args.get_now in
    let arrival = event_of c.args.arrival in
    let places = map event_of c.all_arrivals-arrivals.result.now in
    let those = rw c.plan.ensures at c.all_arrivals-arrivals.ensures in (
      (λ t. may_there plan get arrival c.requires.fence places those (c.all_live.ensures.0 c.if-all_live.true) (c.is_before_none.ensures.0 t)),
      (λ l. c.is_before_none.ensures.1 (may_none_after plan get arrival c.requires.fence places those l)),
    )

pub returns-else-all_live : goal.returns-else-all_live
returns-else-all_live c =
    let plan = plan_of c.args.marked.now in
    let those = rw c.plan.ensures at c.all_arrivals-arrivals.ensures in (
      (λ t. absurd (true≢false (sym t ∙ c.if-all_live.false))),
      (λ l. c.all_live.ensures.1 (may_live plan (event_of c.args.get_now) (event_of c.args.arrival) c.requires.fence (map event_of c.all_arrivals-arrivals.result.now) those l)),
    )
