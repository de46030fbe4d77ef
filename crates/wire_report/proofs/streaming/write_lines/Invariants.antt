use Rattle.std.proofs.Common.{◌≡◌, ◌*◌, ◌≤◌, length, take, vec_capacity}
use Rattle.std.specs.List.{flat_map}
use Rattle.wire_words.specs.Chunks.{IsOnItsWay}
use Rattle.wire_report.specs.Findings.{finding_line}
use Rattle.wire_report.specs.FindingLines.{AreWordsOf}
use Rattle.wire_report.proofs.streaming.write_lines.Given as goal

-- the lines so far are on their way, and none of them is longer than there is room for
abbrev pub invariant-loop-number : goal.invariant-loop-number
invariant-loop-number g l = record {
  way : IsOnItsWay (g.S.Sink.written l.initial.sink) (g.S.Sink.written l.sink) l.chunk (flat_map (finding_line l.lines.scripts.now) (take l.number l.lines.findings.now));
  short : length (flat_map (finding_line l.lines.scripts.now) (take l.number l.lines.findings.now)) ≤ l.lines.room * l.number;
  room : l.lines.room ≤ vec_capacity l.chunk.waiting;
  told : AreWordsOf l.lines.scripts.now l.told.call l.told.words.items;
  told_room : l.lines.room ≤ vec_capacity l.told.words;
  quiet : g.S.Sink.failures l.sink ≡ g.S.Sink.failures l.initial.sink;
}
