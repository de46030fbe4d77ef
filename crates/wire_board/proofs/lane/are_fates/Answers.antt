use Rattle.std.proofs.Common.{ap, refl, sym, ◌∙◌, subst, arith}
use Rattle.std.proofs.lemmas.Bool.{true≢false}
use Rattle.std.proofs.lemmas.Option.{slice_get-get_or, slice_get_within}
use Rattle.wire_scripts.specs.Planned.{plan_of}
use Rattle.wire_runs.specs.Plan.{event_count}
use Rattle.wire_runs.specs.Races.{IsSettled}
use Rattle.wire_board.proofs.Trails.{fates_within, fates_more}
use Rattle.wire_board.proofs.lane.are_fates.Goals as goal

pub returns-then-trail-event_count : goal.returns-then-trail-event_count
returns-then-trail-event_count c = (
  (λ e. absurd (true≢false (sym e))),
  (λ are. absurd (
      let settled = subst (λ s. IsSettled (plan_of s)) c.plan.ensures.same c.plan.ensures.settled in
      let few = fates_within (plan_of c.args.settled.now) c.args.rank.number c.args.trail.now settled are in
      let count = c.event_count.ensures in
      let same = ap (λ s. event_count (plan_of s) c.args.rank.number) c.plan.ensures.same in
      let more = c.if-trail-event_count.true in
      omega (arith, few, count, same, more))),
)

pub returns-then-not-has_fate : goal.returns-then-not-has_fate
returns-then-not-has_fate c = (
  (λ e. absurd (true≢false (sym e))),
  (λ are. absurd (true≢false (sym (c.has_fate.ensures.1 (are c.loop-at.at _ (slice_get-get_or c.args.trail.now c.loop-at.at _ c.loop-at-test.true))) ∙ c.if-not-has_fate.true))),
)

pub loop-at-preserved : goal.loop-at-preserved
loop-at-preserved c = fates_more (plan_of c.args.settled.now) c.args.rank.number c.loop-at.at c.args.trail.now _ c.loop-at.invariant
    (slice_get-get_or c.args.trail.now c.loop-at.at _ c.loop-at-test.true) (c.has_fate.ensures.0 c.if-not-has_fate.false)

pub returns : goal.returns
returns c = (
  (λ _ i fate at. c.loop-at.invariant i fate (let lt = slice_get_within c.args.trail.now i fate at in let end = c.loop-at-test.false in omega (arith, lt, end)) at),
  (λ _. refl),
)
