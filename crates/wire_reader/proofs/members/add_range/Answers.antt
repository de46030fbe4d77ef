use Rattle.std.proofs.Common.{◌+◌, subst, sym, refl, arith}
use Rattle.wire_reader.specs.Targets.{AddsRange}
use Rattle.wire_reader.proofs.NamedPlaces.{range_none, range_push, range_all}
use Rattle.wire_reader.proofs.members.add_range.Goals as goal

pub loop-number-init : goal.loop-number-init
loop-number-init c = record {
  added = range_none c.args.first c.args.first c.args.numbers.now.items (omega arith);
  none = λ le. refl;
}

pub loop-number-preserved : goal.loop-number-preserved
loop-number-preserved c =
    let from = c.loop-number.auto.number in
    let lt = c.loop-number-test.true in
    record {
      added = subst (AddsRange c.args.first (c.loop-number.number + 1) c.args.numbers.now.items) (sym c.in_ok-push.ensures.items)
          (range_push c.args.first c.loop-number.number c.args.numbers.now.items c.loop-number.numbers.items from c.loop-number.invariant.added);
      none = λ le. absurd (omega (arith, from, lt, le));
    }

pub returns : goal.returns
returns c =
    range_all c.args.first c.loop-number.number c.args.past c.args.numbers.now.items c.loop-number.numbers.items c.loop-number-test.false
    c.loop-number.auto.number-end c.loop-number.invariant.none c.loop-number.invariant.added
