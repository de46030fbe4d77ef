use Rattle.std.proofs.Common.{◌≡◌, ◌≤◌, ◌+◌, length}
use Rattle.wire_reader.specs.Left.{statements_left, end_of}
use Rattle.wire_reader.proofs.lines.Cursor.next_words.Given as goal

abbrev pub invariant-lines : goal.invariant-lines
invariant-lines l = record {
  left : statements_left l.initial.self ≡ statements_left l.at;
  end : end_of l.at ≡ end_of l.initial.self;
  room : l.at.line + length l.at.rest.now ≤ l.initial.self.line + length l.initial.self.rest.now;
  kept : l.self ≡ l.initial.self;
}

abbrev pub decreases-lines : goal.decreases-lines
decreases-lines l = length l.at.rest.now
