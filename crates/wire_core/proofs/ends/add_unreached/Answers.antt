use Rattle.wire_types.specs.declared.CallEnd.TheVariants.{Unreached}
use Rattle.wire_core.proofs.Steps.{one_more}
use Rattle.wire_core.proofs.ends.add_unreached.Goals as goal

pub loop-preserved : goal.loop-preserved
loop-preserved c = one_more c.loop.ends.items c.push.new.self.items _ Unreached c.args.count c.loop.counter c.loop-test.true c.in_ok-push.ensures.items c.loop.invariant
