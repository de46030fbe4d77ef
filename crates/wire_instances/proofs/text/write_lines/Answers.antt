use Rattle.wire_instances.proofs.Loops.{lines_step}
use Rattle.wire_instances.proofs.text.write_lines.Goals as goal

pub loop-line-preserved : goal.loop-line-preserved
loop-line-preserved c =
    let f = c.args.excerpt.now.frame in
    lines_step f.pattern f.cast c.args.calling.caller c.args.calling.each c.args.lines.now c.loop-line.line-index c.line-item.result c.args.excerpt.now.wanted
    c.loop-line.out.items c.write_call.new.out.items _
    c.loop-line-test.true c.line-item.is c.in_ok-write_call.ensures c.loop-line.invariant
