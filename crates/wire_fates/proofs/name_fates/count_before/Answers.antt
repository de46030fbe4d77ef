use Rattle.std.proofs.Common.{◌+◌, ◌-◌, ◌/◌, ◌<◌, length, sym, refl, arith}
use Rattle.std.proofs.lemmas.Bool.{true≢false}
use Rattle.std.proofs.lemmas.Option.{slice_get_within}
use Rattle.std.proofs.lemmas.List.{length-map}
use Rattle.wire_runs.specs.Plan.{event_of}
use Rattle.wire_scripts.specs.Planned.{plan_of}
use Rattle.wire_runs.specs.Order.{Before}
use Rattle.wire_fates.specs.Pasts.{events_in}
use Rattle.wire_fates.proofs.Cuts.{low_rises, high_falls, narrowed_cut}
use Rattle.wire_fates.proofs.NameFates.{update_at, event_at, before_in_front}
use Rattle.wire_fates.proofs.name_fates.count_before.Goals as goal

pub bisection-init : goal.bisection-init
bisection-init c = record {
  order = omega arith;
  within = omega arith;
  narrowed = λ name settled are. record {
    below = λ k z lt. absurd (omega (arith, lt));
    above = λ k z ge is. absurd (let within = slice_get_within (events_in c.args.updates.now) k z is in let size = length-map c.args.updates.now (λ u. event_of u.event) in
        omega (arith, within, size, ge));
  };
}

pub bisection-preserved-then-before : goal.bisection-preserved-then-before
bisection-preserved-then-before c =
    let plan = plan_of c.args.marked.now in
    let low = c.bisection.low in
    let high = c.bisection.high in
    let lt = c.bisection-test.true in
    let within = c.bisection.invariant.within in
    let us = c.args.updates.now in
    let fits : low + (high - low) / 2 < length us = omega (arith, lt, within) in
    record {
      order = omega (arith, lt);
      within = within;
      narrowed = λ name settled are.
          low_rises (λ z. Before plan z (event_of c.args.event)) (events_in us)
          (before_in_front plan settled c.marks-marks.result.now c.marks-marks.ensures name us are (event_of c.args.event)) low high _ _
          (event_at us (low + (high - low) / 2) _ (update_at us (low + (high - low) / 2) _ fits))
          ((c.if-before.ensures plan c.marks-marks.ensures).0 refl) (c.bisection.invariant.narrowed name settled are);
    }

pub bisection-preserved : goal.bisection-preserved
bisection-preserved c =
    let plan = plan_of c.args.marked.now in
    let low = c.bisection.low in
    let high = c.bisection.high in
    let lt = c.bisection-test.true in
    let within = c.bisection.invariant.within in
    let us = c.args.updates.now in
    let fits : low + (high - low) / 2 < length us = omega (arith, lt, within) in
    record {
      order = omega arith;
      within = omega (arith, fits);
      narrowed = λ name settled are.
          high_falls (λ z. Before plan z (event_of c.args.event)) (events_in us)
          (before_in_front plan settled c.marks-marks.result.now c.marks-marks.ensures name us are (event_of c.args.event)) low high _ _
          (event_at us (low + (high - low) / 2) _ (update_at us (low + (high - low) / 2) _ fits))
          (λ h. true≢false (sym ((c.if-before.ensures plan c.marks-marks.ensures).1 h))) (c.bisection.invariant.narrowed name settled are);
    }

pub returns-clause-cut : goal.returns-clause-cut
returns-clause-cut c = λ name settled are. narrowed_cut _ _ c.bisection.low c.bisection.high c.bisection-test.false (c.bisection.invariant.narrowed name settled are)
