use Rattle.std.proofs.Common.{arith, refl}
use Rattle.wire_runs.proofs.Basics.{process_within}
use Rattle.wire_runs.proofs.Fates.{live_event}
use Rattle.wire_scripts.specs.Planned.{plan_of}
use Rattle.wire_fates.proofs.waiting.none_waits_for_ever.Goals as goal

pub returns : goal.returns
returns c = (
  (λ t y w.
      let plan = plan_of c.args.marked.now in
      let event = live_event plan y w.live in
      let lt = process_within plan y.proc y.at event.0 event.1 in
      let count = rw c.plan.ensures at c.process_count-number-end.ensures in
      let past = c.loop-number-test.false in
      c.loop-number.invariant y (omega (arith, lt, count, past)) w),
  (λ none_. refl),
)
