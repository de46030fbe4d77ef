use Rattle.std.proofs.Common.{◌∙◌, ◌++◌, codes}
use Rattle.wire_report.specs.Views.{shown_by}
use Rattle.wire_report.proofs.Appended.{then_more, last_slice}
use Rattle.wire_report.proofs.witness_lines.push_shown.Goals as goal

pub returns : goal.returns
returns c =
    let verb = then_more c.args.out.now.items _ _ (shown_by c.args.scripts.now c.args.call) _ c.in_ok-push_shown_by.ensures c.in_ok-extend_from_slice.ensures.items in
    last_slice c.extend_from_slice-2.result c.args.out.now.items _ _ (shown_by c.args.scripts.now c.args.call ++ c.as_bytes.result.now) (codes "\n") _ verb c.extend_from_slice-2.ensures.items
    (λ i. shown_by c.args.scripts.now c.args.call ++ (c.as_bytes.ensures.value ∙ c.verb_at.ensures) i ++ codes "\n")
