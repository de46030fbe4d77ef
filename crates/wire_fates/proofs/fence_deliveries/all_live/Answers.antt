use Rattle.std.proofs.Common.{◌+◌, ◌∙◌, sym, refl, map, arith}
use Rattle.std.proofs.lemmas.List.{length-map}
use Rattle.std.proofs.lemmas.Bool.{true≢false}
use Rattle.wire_runs.specs.Plan.{event_of}
use Rattle.wire_scripts.specs.Planned.{plan_of}
use Rattle.wire_runs.specs.Order.{Live}
use Rattle.wire_fates.proofs.Arrivals.{one_more, all_places}
use Rattle.wire_fates.proofs.Places.{place_at}
use Rattle.wire_fates.proofs.fence_deliveries.all_live.Goals as goal

pub returns-then-not-live : goal.returns-then-not-live
returns-then-not-live c = (
  (λ t. absurd (true≢false (sym t))),
  (λ alive. absurd (true≢false (sym (c.live.ensures.1 (alive c.loop-x.x-index _ (place_at c.args.events.now c.loop-x.x-index _ c.loop-x-test.true))) ∙ c.if-not-live.true))),
)

pub loop-x-preserved : goal.loop-x-preserved
loop-x-preserved c =
    let plan = plan_of c.args.marked.now in
    one_more (Live plan) (map event_of c.args.events.now) c.loop-x.x-index (c.loop-x.x-index + 1) _ (omega arith) (place_at c.args.events.now c.loop-x.x-index _ c.loop-x-test.true)
    c.loop-x.invariant (c.live.ensures.0 c.if-not-live.false)

pub returns : goal.returns
returns c =
    let plan = plan_of c.args.marked.now in (
      (λ t. (
          let size = length-map c.args.events.now event_of in
          let end = c.loop-x-test.false in
          all_places (Live plan) (map event_of c.args.events.now) c.loop-x.x-index (omega (arith, size, end)) c.loop-x.invariant)),
      (λ a. refl),
    )
