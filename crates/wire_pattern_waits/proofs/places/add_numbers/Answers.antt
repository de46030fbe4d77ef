use Rattle.std.proofs.Common.{◌+◌}
use Rattle.wire_pattern_waits.proofs.Walks.{number_step}
use Rattle.wire_pattern_waits.proofs.places.add_numbers.Goals as goal

pub loop-number-preserved : goal.loop-number-preserved
loop-number-preserved c =
    number_step c.loop-number.number (c.args.first + c.args.count) c.loop-number.out.items c.push.new.self.items _
    c.loop-number-test.true c.in_ok-push.ensures.items c.loop-number.invariant
