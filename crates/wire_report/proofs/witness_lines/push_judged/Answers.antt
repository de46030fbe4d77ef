use Rattle.std.proofs.Common.{codes}
use Rattle.wire_report.proofs.Counts.{both_counts}
use Rattle.wire_report.proofs.witness_lines.push_judged.Goals as goal

pub returns : goal.returns
returns c =
    both_counts c.push_counted-2.result c.args.out.now.items c.push_counted.new.out.items c.push_counted-2.new.out.items c.as_slice.result.now c.as_slice-2.result.now (codes " shown ")
    (codes " not-shown ") c.args.counts.shown c.args.counts.not_shown c.in_ok-push_counted.ensures c.push_counted-2.ensures c.as_slice.ensures c.as_slice-2.ensures
