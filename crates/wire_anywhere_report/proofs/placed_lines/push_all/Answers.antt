use Rattle.std.proofs.Common.{sym, arith}
use Rattle.wire_anywhere_report.specs.PlacedLines.{placed_line}
use Rattle.wire_anywhere_report.proofs.Listed.{next_line, all_lines}
use Rattle.wire_anywhere_report.proofs.placed_lines.push_all.Goals as goal

pub loop-number-preserved : goal.loop-number-preserved
loop-number-preserved c =
    next_line (placed_line c.args.scripts.now) c.args.found.now c.loop-number.number c.in-Some.placed c.args.out.now.items _ _ (sym c.in-Some.ensures) c.loop-number.invariant
    c.in_ok-push_placed.ensures

pub returns : goal.returns
returns c =
    all_lines (placed_line c.args.scripts.now) c.args.found.now c.loop-number.number c.args.out.now.items _ (omega (arith, c.loop-number-test.false, c.len-number-end.ensures))
    c.loop-number.invariant
