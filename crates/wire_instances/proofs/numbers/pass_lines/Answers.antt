use Rattle.wire_instances.proofs.Loops.{number_step}
use Rattle.wire_instances.proofs.numbers.pass_lines.Goals as goal

pub loop-line-preserved : goal.loop-line-preserved
loop-line-preserved c =
    number_step c.args.lines.now c.loop-line.line-index c.line-item.result c.loop-line.search c.pass.new.self _
    c.loop-line-test.true c.line-item.is c.pass.ensures c.loop-line.invariant
