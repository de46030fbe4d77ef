use Rattle.std.proofs.Common.{length, vec_capacity}
use Rattle.wire_report.specs.Findings.{finding_line}
use Rattle.wire_report.proofs.Streams.{has_both_rooms}
use Rattle.wire_report.proofs.streaming.write_line.Goals as goal

pub unwrap-requires : goal.unwrap-requires
unwrap-requires c =
    has_both_rooms c.push_line_after.result (vec_capacity c.args.out.now) (length c.args.out.now.items) (vec_capacity c.args.told.now.words)
    (length (finding_line c.args.lines.scripts.now c.args.finding)) c.args.lines.room c.push_line_after.ensures.full c.requires.room c.requires.told.1
    (c.requires.lines.lines c.args.finding c.push_line_after.ensures.numbered)

pub returns-clause-short : goal.returns-clause-short
returns-clause-short c = c.requires.lines.lines c.args.finding c.push_line_after.ensures.numbered
