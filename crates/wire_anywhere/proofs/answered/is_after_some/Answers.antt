use Rattle.std.proofs.Common.{◌≡◌, ◌+◌, ◌⊎◌, inl, inr, sym, map, arith}
use Rattle.std.proofs.lemmas.List.{length-map}
use Rattle.std.proofs.lemmas.Bool.{true≢false}
use Rattle.wire_runs.specs.Plan.{event_of}
use Rattle.wire_scripts.specs.Planned.{plan_of}
use Rattle.wire_runs.specs.Order.{Before}
use Rattle.wire_fates.proofs.Arrivals.{one_more, all_places}
use Rattle.wire_fates.proofs.Places.{place_at}
use Rattle.wire_anywhere.proofs.answered.is_after_some.Goals as goal

pub loop-x-preserved : goal.loop-x-preserved
loop-x-preserved c =
    let plan = plan_of c.args.marked.now in
    one_more (λ z. ¬ ((z ≡ event_of c.args.event) ⊎ Before plan z (event_of c.args.event))) (map event_of c.args.stuck.now) c.loop-x.x-index (c.loop-x.x-index + 1) _ (omega arith)
    (place_at c.args.stuck.now c.loop-x.x-index _ c.loop-x-test.true) c.loop-x.invariant
    (λ h. elim h [ inl e ↦ true≢false (sym (c.if-is_same.ensures.1 e)) | inr b ↦ true≢false (sym (c.if-before.ensures.1 b)) ])

pub returns : goal.returns
returns c =
    let plan = plan_of c.args.marked.now in
    let size = length-map c.args.stuck.now event_of in
    let end = c.loop-x-test.false in (
      (λ t. absurd (true≢false (sym t))),
      (λ a. absurd (all_places (λ z. ¬ ((z ≡ event_of c.args.event) ⊎ Before plan z (event_of c.args.event))) (map event_of c.args.stuck.now) c.loop-x.x-index (omega (arith, size, end))
          c.loop-x.invariant a.0 a.1 a.2 a.3)),
    )
