use Rattle.wire_instances.proofs.Loops.{process_numbers}
use Rattle.wire_instances.proofs.numbers.pass_role.Goals as goal

pub loop-process-preserved : goal.loop-process-preserved
loop-process-preserved c =
    let f = c.args.frame.now in
    process_numbers f.pattern f.cast c.args.number c.args.role.now c.loop-process.process c.group-first.result.1 c.loop-process.search c.pass_process.new.search
    _
    c.requires.role c.loop-process-test.true c.in_ok-pass_process.ensures c.loop-process.invariant
