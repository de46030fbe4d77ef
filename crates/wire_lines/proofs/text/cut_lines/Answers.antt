use Rattle.wire_lines.proofs.Lines.{cut_behind, cut_end}
use Rattle.wire_lines.proofs.text.cut_lines.Goals as goal
use Rattle.wire_lines.proofs.text.cut_lines.Goals.{in-Some, in-None}

pub returns-clause-lines : goal.returns-clause-lines
returns-clause-lines c =
    let bs = c.args.bytes.now in
    let first = c.split_at.ensures.front in
    let second = c.split_at.ensures.back in
    elim c.match-line_feed.branch [
      | in-Some w ↦ rw (first, second, w.end-is) (cut_behind bs c.args.at w.in-Some.more c.requires w.in-Some.ensures)
      | in-None w ↦ rw (first, second, w.end-is) (cut_end bs)
    ]
