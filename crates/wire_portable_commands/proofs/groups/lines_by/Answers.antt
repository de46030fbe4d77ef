use Rattle.wire_portable_commands.specs.Lines.{is_by}
use Rattle.wire_portable_commands.proofs.Blames.{one_kept}
use Rattle.wire_portable_commands.proofs.groups.lines_by.Goals as goal

pub loop-line-preserved : goal.loop-line-preserved
loop-line-preserved c =
    one_kept (is_by c.args.rule) c.args.lines.now c.loop-line.line-index _ c.loop-line.those.items _ c.loop-line-test.true c.loop-line.invariant c.in_ok-add_if_by.ensures
