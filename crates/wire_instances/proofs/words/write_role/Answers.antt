use Rattle.std.proofs.Common.{◌+◌}
use Rattle.wire_instances.proofs.Loops.{member_step}
use Rattle.wire_instances.proofs.words.write_role.Goals as goal

pub loop-process-preserved : goal.loop-process-preserved
loop-process-preserved c =
    let f = c.args.excerpt.now.frame in
    member_step f.pattern f.cast c.loop-process.process c.group-first.result.1 (c.args.excerpt.now.wanted + 1) c.loop-process.out.items
    c.write_member.new.out.items _
    c.loop-process-test.true c.in_ok-write_member.ensures c.loop-process.invariant
