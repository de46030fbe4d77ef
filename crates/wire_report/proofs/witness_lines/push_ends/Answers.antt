use Rattle.wire_report.specs.Views.{end_line}
use Rattle.std.proofs.Common.{◌++◌}
use Rattle.wire_report.proofs.Appended.{last_more}
use Rattle.wire_report.proofs.witness_lines.push_ends.Goals as goal

pub returns : goal.returns
returns c =
    let s = c.args.scripts.now in
    last_more c.push_end_line-2.result c.args.out.now.items _ _ _ _ _ c.in_ok-push_end_line.ensures c.push_end_line-2.ensures
    (λ i. end_line (c.as_slice.ensures i) s c.args.first.now ++ end_line (c.as_slice-2.ensures i) s c.args.second.now)
