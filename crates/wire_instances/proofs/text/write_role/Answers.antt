use Rattle.wire_instances.proofs.Loops.{process_step}
use Rattle.wire_instances.proofs.text.write_role.Goals as goal

pub loop-process-preserved : goal.loop-process-preserved
loop-process-preserved c =
    let f = c.args.excerpt.now.frame in
    process_step f.pattern f.cast c.args.number c.loop-process.process c.group-first.result.1 c.args.excerpt.now.wanted c.loop-process.out.items
    c.write_process.new.out.items _
    c.loop-process-test.true c.in_ok-write_process.ensures c.loop-process.invariant
