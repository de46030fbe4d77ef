use Rattle.wire_pattern_waits.proofs.Pieces.{line_step}
use Rattle.wire_pattern_waits.proofs.text.write_waits.Goals as goal

pub loop-line-preserved : goal.loop-line-preserved
loop-line-preserved c =
    line_step c.args.pattern.now c.args.lines.now c.loop-line.line-index _ c.loop-line.out.items c.write_line.new.out.items _ c.loop-line-test.true
    c.in_ok-write_line.ensures c.loop-line.invariant
