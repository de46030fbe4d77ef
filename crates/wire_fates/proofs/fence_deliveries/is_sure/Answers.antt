use Rattle.std.proofs.Common.{◌∙◌, refl, sym, map}
use Rattle.std.proofs.lemmas.Bool.{true≢false}
use Rattle.wire_runs.specs.Plan.{event_of}
use Rattle.wire_scripts.specs.Planned.{plan_of}
use Rattle.wire_fates.proofs.Arrivals.{sure_tells, sure_live, behind_sure, of_rising}
use Rattle.wire_fates.proofs.fence_deliveries.is_sure.Goals as goal

pub is_behind_own-requires : goal.is_behind_own-requires
is_behind_own-requires c =
    of_rising (plan_of c.args.marked.now) (event_of c.args.get_now) (event_of c.args.arrival) c.requires.fence (map event_of c.all_arrivals-arrivals.result.now)
    (rw c.plan.ensures at c.all_arrivals-arrivals.ensures)

pub returns-then-all_live : goal.returns-then-all_live
returns-then-all_live c =
    let plan = plan_of c.args.marked.now in
    let those = rw c.plan.ensures at c.all_arrivals-arrivals.ensures in
    sure_tells plan (event_of c.args.get_now) (event_of c.args.arrival) c.requires.fence (map event_of c.all_arrivals-arrivals.result.now) those c.first_not_before.result
    c.is_none.result c.is_none.ensures
    c.first_not_before.ensures (c.all_live.ensures.0 c.if-all_live.true)

pub returns-else-all_live : goal.returns-else-all_live
returns-else-all_live c =
    let plan = plan_of c.args.marked.now in
    let those = rw c.plan.ensures at c.all_arrivals-arrivals.ensures in (
      (λ t. absurd (true≢false (sym t ∙ c.if-all_live.false))),
      (λ s. c.all_live.ensures.1 (sure_live plan (event_of c.args.get_now) (event_of c.args.arrival) c.requires.fence (map event_of c.all_arrivals-arrivals.result.now) those s)),
    )

pub returns-then-is_behind_own : goal.returns-then-is_behind_own
returns-then-is_behind_own c = (
  (λ t. behind_sure (plan_of c.args.marked.now) (event_of c.args.get_now) (event_of c.args.arrival) c.requires.fence (map event_of c.all_arrivals-arrivals.result.now)
      (rw c.plan.ensures at c.all_arrivals-arrivals.ensures) (c.is_behind_own.ensures.0 c.if-is_behind_own.true) c.requires.live),
  (λ s. refl),
)
