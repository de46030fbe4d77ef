use Rattle.std.proofs.Common.{◌∙◌, ◌+◌, ◌-◌, ◌/◌, ◌<◌, map, length, sym, arith}
use Rattle.std.proofs.lemmas.Bool.{true≢false}
use Rattle.wire_runs.specs.Plan.{event_of}
use Rattle.wire_scripts.specs.Planned.{plan_of}
use Rattle.wire_races.specs.NameRaces.{IsBelow}
use Rattle.wire_fates.proofs.Places.{place_at}
use Rattle.wire_fates.proofs.Cuts.{low_rises, high_falls, narrowed_cut}
use Rattle.wire_races.proofs.NameRaces.{borders}
use Rattle.wire_races.proofs.call_races.count_below.Goals as goal

pub bisection-preserved-then-is_below : goal.bisection-preserved-then-is_below
bisection-preserved-then-is_below c =
    let low = c.bisection.low in
    let high = c.bisection.high in
    let lt = c.bisection-test.true in
    let within = c.bisection.invariant.within in
    let fits : low + (high - low) / 2 < length c.args.run.now = omega (arith, lt, within) in
    record {
      order = omega (arith, lt);
      within = within;
      narrowed = λ p rising one.
          low_rises (IsBelow (plan_of c.args.marked.now) (event_of c.args.x) c.args.border) (map event_of c.args.run.now)
          (borders (plan_of c.args.marked.now) (event_of c.args.x) c.args.border p (map event_of c.args.run.now) rising one) low high _ _
          (place_at c.args.run.now (low + (high - low) / 2) _ fits)
          (c.is_below.ensures.0 c.if-is_below.true) (c.bisection.invariant.narrowed p rising one);
    }

pub bisection-preserved : goal.bisection-preserved
bisection-preserved c =
    let low = c.bisection.low in
    let high = c.bisection.high in
    let lt = c.bisection-test.true in
    let within = c.bisection.invariant.within in
    let fits : low + (high - low) / 2 < length c.args.run.now = omega (arith, lt, within) in
    record {
      order = omega arith;
      within = omega (arith, fits);
      narrowed = λ p rising one.
          high_falls (IsBelow (plan_of c.args.marked.now) (event_of c.args.x) c.args.border) (map event_of c.args.run.now)
          (borders (plan_of c.args.marked.now) (event_of c.args.x) c.args.border p (map event_of c.args.run.now) rising one) low high _ _
          (place_at c.args.run.now (low + (high - low) / 2) _ fits)
          (λ h. true≢false (sym (c.is_below.ensures.1 h) ∙ c.if-is_below.false)) (c.bisection.invariant.narrowed p rising one);
    }

pub returns-clause-cut : goal.returns-clause-cut
returns-clause-cut c = λ p rising one. narrowed_cut _ _ c.bisection.low c.bisection.high c.bisection-test.false (c.bisection.invariant.narrowed p rising one)
