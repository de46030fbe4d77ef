use Rattle.std.proofs.Common.{◌+◌, ◌∙◌, sym, refl, map, arith}
use Rattle.std.proofs.lemmas.List.{length-map}
use Rattle.std.proofs.lemmas.Bool.{true≢false}
use Rattle.wire_runs.specs.Plan.{event_of}
use Rattle.wire_scripts.specs.Planned.{plan_of}
use Rattle.wire_fates.proofs.Arrivals.{one_more, all_places}
use Rattle.wire_fates.proofs.Places.{place_at}
use Rattle.wire_anywhere.specs.Carriers.{LacksSurely}
use Rattle.wire_anywhere.proofs.carriers.first_lacking.Goals as goal

pub loop-event-init : goal.loop-event-init
loop-event-init c = λ k z lt. absurd (omega (arith, lt))

pub loop-event-preserved : goal.loop-event-preserved
loop-event-preserved c =
    let plan = plan_of c.args.marked.now in
    let get = event_of c.args.asked.get_now in
    one_more (λ z. ¬ (LacksSurely plan c.args.asked.owner.number c.args.asked.key get z.proc)) (map event_of c.args.list.now) c.loop-event.event-index (c.loop-event.event-index + 1) _ (omega arith)
    (place_at c.args.list.now c.loop-event.event-index _ c.loop-event-test.true) c.loop-event.invariant (λ l. true≢false (sym (c.lacks.ensures.1 l) ∙ c.if-lacks.false))

pub returns-then-lacks : goal.returns-then-lacks
returns-then-lacks c = record {
  k = c.loop-event.event-index;
  z = _;
  is = place_at c.args.list.now c.loop-event.event-index _ c.loop-event-test.true;
  proc = refl;
  lacks = c.lacks.ensures.0 c.if-lacks.true;
  others = c.loop-event.invariant;
}

pub returns : goal.returns
returns c =
    let plan = plan_of c.args.marked.now in
    let get = event_of c.args.asked.get_now in
    let size = length-map c.args.list.now event_of in
    let end = c.loop-event-test.false in
    all_places (λ z. ¬ (LacksSurely plan c.args.asked.owner.number c.args.asked.key get z.proc)) (map event_of c.args.list.now) c.loop-event.event-index (omega (arith, size, end)) c.loop-event.invariant
