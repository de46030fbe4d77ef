use Rattle.std.proofs.Common.{◌∙◌, ◌++◌, codes, decimal}
use Rattle.wire_scripts.specs.Canonical.{process_text}
use Rattle.wire_words.specs.Words.{end_text}
use Rattle.wire_report.specs.Views.{count_text, end_line}
use Rattle.wire_report.proofs.Appended.{then_more, last_more}
use Rattle.wire_report.proofs.Parts.{call_line_parts}
use Rattle.wire_report.proofs.report_lines.push_line.Goals as goal

pub returns : goal.returns
returns c =
    let s = c.args.scripts.now in
    let process = process_text s c.args.process.now in
    let n = c.args.ended.number in
    let end = end_text s c.args.ended.end.now in
    let number = then_more _ _ _ process (count_text c.as_slice.result.now n) c.in_ok-push_process.ensures.ok c.in_ok-push_counted.ensures in
    let verb = then_more _ _ _ (process ++ count_text c.as_slice.result.now n) (codes " " ++ c.as_bytes.result.now) number c.in_ok-push_spaced.ensures.ok in
    last_more c.push_end_line.result _ _ _ (process ++ count_text c.as_slice.result.now n ++ (codes " " ++ c.as_bytes.result.now)) (end_line c.as_slice-2.result.now s c.args.ended.end.now) _ verb c.push_end_line.ensures
    (call_line_parts process c.as_slice.result.now (decimal n) (codes " ") c.as_bytes.result.now c.as_slice-2.result.now end (codes "\n")
    ∙ (λ i. process ++ c.as_slice.ensures i ++ decimal n ++ codes " " ++ (c.as_bytes.ensures.value ∙ c.verb.ensures) i ++ c.as_slice-2.ensures i ++ end ++ codes "\n"))
