use Rattle.std.proofs.Common.{◌∙◌, ap}
use Rattle.wire_lines.specs.Text.{lines_of}
use Rattle.wire_reader.specs.Statements.{statements_from}
use Rattle.wire_reader.proofs.Cutting.{statements_both}
use Rattle.wire_reader.proofs.lines.Cursor.cut.Goals as goal

pub returns-clause-left : goal.returns-clause-left
returns-clause-left c =
    let line = c.args.self.now.line in
    rw c.count_lines.ensures.count
    (ap (statements_from line) c.cut_lines.ensures.lines
    ∙ statements_both line (lines_of c.cut_lines.result.0.now) (lines_of c.cut_lines.result.1.now))
