use Rattle.std.proofs.Common.{refl, None}
use Rattle.std.proofs.lemmas.Slice.Zip.{either_empty_from_Zip}
use Rattle.wire_report.proofs.LinesLeft.{no_row, one_row}
use Rattle.wire_report.proofs.report_lines.push_all.Goals as goal

pub returns : goal.returns
returns c =
    let h = rw c.in-None.is at c.next.ensures.steps in
    let ended = either_empty_from_Zip c.loop-process.process-iterator c.next.new.self None refl h in
    no_row c.args.scripts.now _ (λ row. row.items) _ _ _ ended c.loop-process.invariant

pub loop-process-preserved : goal.loop-process-preserved
loop-process-preserved c =
    let h = rw c.in-Some.is at c.next.ensures.steps in
    one_row c.args.scripts.now _ _ _ (λ row. row.items) _ _ _ _ _ _ _ h.0 h.1 c.as_slice.ensures.value c.loop-process.invariant c.in_ok-push_process_lines.ensures
