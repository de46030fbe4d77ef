use Rattle.std.proofs.Common.{ap, sym, flat_map}
use Rattle.std.proofs.lemmas.List.{drop_all}
use Rattle.wire_report.proofs.Appended.{next_text, none_left}
use Rattle.wire_portable_commands.specs.Lines.{unportable_line}
use Rattle.wire_portable_commands.proofs.lines.push_all.Goals as goal

pub loop-line-preserved : goal.loop-line-preserved
loop-line-preserved c = (
  next_text (unportable_line c.args.scripts.now) c.args.lines.now c.loop-line.line-index _ _ _ _ c.loop-line-test.true c.loop-line.invariant.0 c.in_ok-push_next.ensures.text,
  c.in_ok-push_next.ensures.head,
)

pub returns : goal.returns
returns c = none_left _ _ _ (ap (flat_map (unportable_line c.args.scripts.now)) (drop_all c.loop-line.line-index c.args.lines.now c.loop-line-test.false)) (sym c.loop-line.invariant.0)
