use Rattle.std.proofs.Common.{[], subst, sym}
use Rattle.wire_reader.specs.Drafted.{declared_of}
use Rattle.wire_reader.specs.Targets.{AreTargetNumbers}
use Rattle.wire_reader.proofs.NamedPlaces.{none_named, named_next, named_all}
use Rattle.wire_reader.proofs.members.gather_numbers.Goals as goal

pub loop-target-init : goal.loop-target-init
loop-target-init c = subst (AreTargetNumbers (declared_of c.args.draft.now) []) (sym c.in_ok-numbers.ensures.items) (none_named (declared_of c.args.draft.now))

pub loop-target-preserved : goal.loop-target-preserved
loop-target-preserved c =
    named_next (declared_of c.args.draft.now) c.args.targets.now c.loop-target.target-index _ c.range_of-first.result.0 c.range_of-first.result.1 c.loop-target.numbers.items
    c.add_range.new.numbers.items
    c.loop-target-test.true c.range_of-first.ensures c.in_ok-add_range.ensures c.loop-target.invariant

pub returns : goal.returns
returns c = named_all (declared_of c.args.draft.now) c.args.targets.now c.loop-target.target-index c.loop-target.numbers.items c.loop-target-test.false c.loop-target.invariant
