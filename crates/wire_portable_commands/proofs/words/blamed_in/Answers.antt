use Rattle.wire_portable_commands.proofs.Blames.{blamed_more, blamed_all}
use Rattle.wire_portable_commands.proofs.words.blamed_in.Goals as goal

pub loop-line-preserved : goal.loop-line-preserved
loop-line-preserved c = blamed_more c.args.lines.now c.loop-line.line-index _ c.loop-line.blamed _ _ c.loop-line-test.true c.loop-line.invariant c.or-blamed.ensures

pub returns : goal.returns
returns c = blamed_all c.args.lines.now c.loop-line.line-index _ _ c.loop-line-test.false c.loop-line.invariant
