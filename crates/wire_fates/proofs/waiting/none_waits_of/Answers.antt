use Rattle.std.proofs.Common.{◌<◌, arith, refl, subst}
use Rattle.wire_runs.specs.Plan.{event_count}
use Rattle.wire_runs.proofs.Fates.{live_within}
use Rattle.wire_scripts.specs.Planned.{plan_of}
use Rattle.wire_fates.specs.Waiting.{WaitsForEver}
use Rattle.wire_fates.proofs.waiting.none_waits_of.Goals as goal

pub returns : goal.returns
returns c = (
  (λ t y same w.
      let plan = plan_of c.args.marked.now in
      let lt = subst (λ p. y.at < event_count plan p) same (live_within plan y w.live) in
      let count = rw c.plan.ensures at c.event_count-at-end.ensures in
      let past = c.loop-at-test.false in
      c.loop-at.invariant y.at (omega (arith, lt, count, past)) (subst (WaitsForEver plan) (λ i. record { proc = same i; at = y.at }) w)),
  (λ none_. refl),
)
