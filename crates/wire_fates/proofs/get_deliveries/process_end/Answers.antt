use Rattle.std.proofs.Common.{◌+◌, ◌-◌, ◌/◌, ◌<◌, refl, length, arith}
use Rattle.wire_types.specs.declared.Event.{Event}
use Rattle.wire_fates.proofs.Gets.{one_at, ends_nowhere}
use Rattle.wire_fates.proofs.get_deliveries.process_end.Goals as goal

pub bisection-init : goal.bisection-init
bisection-init c =
    let items : c.args.place < length c.args.gets.now = c.requires in
    let any : Event = record { proc = record { number = 0 }; at = 0 } in
    record {
      order = omega (arith, items);
      within = omega arith;
      after = omega arith;
      last = one_at c.args.gets.now c.args.place c.args.place (c.args.place + 1) any any items items (omega arith) refl;
      end = ends_nowhere c.args.gets.now c.args.place (length c.args.gets.now) (omega arith);
    }

pub bisection-preserved-then-gets-middle : goal.bisection-preserved-then-gets-middle
bisection-preserved-then-gets-middle c =
    let low = c.bisection.low in
    let high = c.bisection.high in
    let lt = c.bisection-test.true in
    let within = c.bisection.invariant.within in
    let after = c.bisection.invariant.after in
    let fits : low + (high - low) / 2 < length c.args.gets.now = omega (arith, lt, within) in
    record {
      order = omega (arith, lt);
      within = within;
      after = omega (arith, after);
      last = one_at c.args.gets.now c.args.place (low + (high - low) / 2) (low + (high - low) / 2 + 1) _ _ c.requires fits (omega arith) c.if-gets-middle.true;
      end = c.bisection.invariant.end;
    }
