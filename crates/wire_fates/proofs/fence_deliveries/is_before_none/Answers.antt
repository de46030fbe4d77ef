use Rattle.std.proofs.Common.{◌+◌, ◌∙◌, sym, refl, map, arith}
use Rattle.std.proofs.lemmas.List.{length-map}
use Rattle.std.proofs.lemmas.Bool.{true≢false}
use Rattle.wire_runs.specs.Plan.{event_of}
use Rattle.wire_scripts.specs.Planned.{plan_of}
use Rattle.wire_runs.specs.Order.{Before}
use Rattle.wire_fates.proofs.Arrivals.{one_more, all_places}
use Rattle.wire_fates.proofs.Places.{place_at}
use Rattle.wire_fates.proofs.fence_deliveries.is_before_none.Goals as goal

pub returns-then-before : goal.returns-then-before
returns-then-before c = (
  (λ t. absurd (true≢false (sym t))),
  (λ none_after. absurd (none_after c.loop-x.x-index _ (place_at c.args.events.now c.loop-x.x-index _ c.loop-x-test.true) (c.before-in-loop-x.ensures.0 c.if-before.true))),
)

pub loop-x-preserved : goal.loop-x-preserved
loop-x-preserved c =
    let plan = plan_of c.args.marked.now in
    one_more (λ z. ¬ (Before plan (event_of c.args.get_now) z)) (map event_of c.args.events.now) c.loop-x.x-index (c.loop-x.x-index + 1) _ (omega arith)
    (place_at c.args.events.now c.loop-x.x-index _ c.loop-x-test.true) c.loop-x.invariant (λ b. true≢false (sym (c.before-in-loop-x.ensures.1 b) ∙ c.if-before.false))

pub returns : goal.returns
returns c =
    let plan = plan_of c.args.marked.now in (
      (λ t. (
          let size = length-map c.args.events.now event_of in
          let end = c.loop-x-test.false in
          all_places (λ z. ¬ (Before plan (event_of c.args.get_now) z)) (map event_of c.args.events.now) c.loop-x.x-index (omega (arith, size, end)) c.loop-x.invariant)),
      (λ a. refl),
    )
