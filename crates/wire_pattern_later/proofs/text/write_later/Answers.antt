use Rattle.wire_pattern_later.proofs.Written.{later_step}
use Rattle.wire_pattern_later.proofs.text.write_later.Goals as goal

pub loop-line-preserved : goal.loop-line-preserved
loop-line-preserved c =
    later_step c.args.pattern.now c.args.ranks c.args.lines.now c.loop-line.line-index _ c.loop-line.out.items c.write_line.new.out.items _ c.loop-line-test.true
    c.in_ok-write_line.ensures c.loop-line.invariant
