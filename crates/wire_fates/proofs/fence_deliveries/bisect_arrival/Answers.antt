use Rattle.std.proofs.Common.{◌+◌, ◌-◌, ◌/◌, ◌<◌, length, map, arith}
use Rattle.std.proofs.lemmas.List.{length-map}
use Rattle.std.proofs.lemmas.Option.{slice_get_within}
use Rattle.wire_runs.specs.Plan.{event_of}
use Rattle.wire_fates.proofs.fence_deliveries.bisect_arrival.Goals as goal
use Rattle.wire_fates.proofs.OwnArrivals.{raised, lowered, none_between}
use Rattle.wire_fates.proofs.Places.{place_at}

pub bisection-init : goal.bisection-init
bisection-init c = record {
  order = omega arith;
  within = omega arith;
  between = record {
    below = λ k z lt is. omega (arith, lt);
    above = λ k z ge is. (let within = slice_get_within (map event_of c.args.arrivals.now) k z is in let size = length-map c.args.arrivals.now event_of in
        omega (arith, within, size, ge));
  };
}

pub bisection-preserved-then-arrival-proc-2 : goal.bisection-preserved-then-arrival-proc-2
bisection-preserved-then-arrival-proc-2 c =
    let low = c.bisection.low in
    let high = c.bisection.high in
    let lt = c.bisection-test.true in
    let within = c.bisection.invariant.within in
    let fits : low + (high - low) / 2 < length c.args.arrivals.now = omega (arith, lt, within) in
    record {
      order = omega (arith, lt);
      within = within;
      between = raised c.args.proc.number (map event_of c.args.arrivals.now) c.requires low high (low + (high - low) / 2) _
          (place_at c.args.arrivals.now (low + (high - low) / 2) _ fits) c.if-arrival-proc-2.true c.bisection.invariant.between;
    }

pub bisection-preserved : goal.bisection-preserved
bisection-preserved c =
    let low = c.bisection.low in
    let high = c.bisection.high in
    let lt = c.bisection-test.true in
    let within = c.bisection.invariant.within in
    let fits : low + (high - low) / 2 < length c.args.arrivals.now = omega (arith, lt, within) in
    record {
      order = omega arith;
      within = omega (arith, fits);
      between = lowered c.args.proc.number (map event_of c.args.arrivals.now) c.requires low high (low + (high - low) / 2) _
          (place_at c.args.arrivals.now (low + (high - low) / 2) _ fits) c.if-arrival-proc.false c.if-arrival-proc-2.false
          c.bisection.invariant.between;
    }

pub returns-then-arrival-proc : goal.returns-then-arrival-proc
returns-then-arrival-proc c =
    let low = c.bisection.low in
    let high = c.bisection.high in
    let lt = c.bisection-test.true in
    let within = c.bisection.invariant.within in
    let fits : low + (high - low) / 2 < length c.args.arrivals.now = omega (arith, lt, within) in
    record {
      k = low + (high - low) / 2;
      is = place_at c.args.arrivals.now (low + (high - low) / 2) _ fits;
      proc = c.if-arrival-proc.true;
    }

pub returns : goal.returns
returns c =
    none_between c.args.proc.number (map event_of c.args.arrivals.now) c.requires c.bisection.low c.bisection.high c.bisection-test.false c.bisection.invariant.between
