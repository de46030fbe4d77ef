use Rattle.std.proofs.Common.{◌+◌, refl, None}
use Rattle.std.proofs.lemmas.Slice.Zip.{either_empty_from_Zip}
use Rattle.std.specs.Iterator.Adapters.{enumerate_source, enumerate_count}
use Rattle.wire_report.proofs.LinesLeft.{one_line, no_line}
use Rattle.wire_report.proofs.report_lines.push_process_lines.Goals as goal

pub loop-i-preserved : goal.loop-i-preserved
loop-i-preserved c =
    let h = rw c.in-Some.is at c.next.ensures.steps in
    one_line c.args.scripts.now c.args.process.now _ _ _ _ _ _ _ _ _ _ _ _ h.0.0 h.0.1 h.1 h.2 c.loop-i.invariant c.in_ok-push_line.ensures

pub returns : goal.returns
returns c =
    let h = rw c.in-None.is at c.next.ensures.steps in
    let ended = either_empty_from_Zip (enumerate_source c.loop-i.i-iterator) (enumerate_source c.next.new.self) None refl h.0 in
    no_line c.args.scripts.now c.args.process.now (enumerate_count c.loop-i.i-iterator + 1) _ _ _ _ ended c.loop-i.invariant
