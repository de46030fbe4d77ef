use Rattle.std.proofs.Common.{arith}
use Rattle.wire_types.specs.Texts.{texts_of}
use Rattle.wire_reader.specs.Statements.{Statement}
use Rattle.wire_reader.specs.Left.{statements_left}
use Rattle.wire_reader.specs.Pieces.{IsParsed}
use Rattle.wire_reader.proofs.Parsing.{says_nothing, one_more, last_parsed, all_parsed}
use Rattle.wire_reader.proofs.pieces.parse_piece.Goals as goal

pub statements-preserved : goal.statements-preserved
statements-preserved c =
    let statement : Statement = (c.in-Some.number, texts_of c.next_words.new.words.items) in
    let parsed : IsParsed statement c.in_ok-line.line = rw c.deref.ensures.value at c.in_ok-line.ensures in
    record {
      so_far = one_more _ (statements_left c.statements.left) c.statements.parsed.items c.statements.invariant.so_far statement (statements_left c.next_words.new.self)
          c.in_ok-line.line c.push.new.self.items (rw c.in-Some.is at c.in_ok-number.ensures.left) parsed c.in_ok-push.ensures.items;
      room = omega (arith, c.in_ok-number.ensures.room, c.statements.invariant.room);
    }

pub returns-then-is_wrong : goal.returns-then-is_wrong
returns-then-is_wrong c =
    let statement : Statement = (c.in-Some.number, texts_of c.next_words.new.words.items) in
    let parsed : IsParsed statement c.in_ok-line.line = rw c.deref.ensures.value at c.in_ok-line.ensures in
    last_parsed _ (statements_left c.statements.left) c.statements.parsed.items c.statements.invariant.so_far statement (statements_left c.next_words.new.self)
    c.in_ok-line.line c.push.new.self.items (rw c.in-Some.is at c.in_ok-number.ensures.left) parsed
    (says_nothing c.in_ok-line.line.said c.is_none-is_wrong.result c.is_none-is_wrong.ensures c.if-is_wrong.true) c.in_ok-push.ensures.items

pub returns : goal.returns
returns c = all_parsed _ (statements_left c.statements.left) c.statements.parsed.items c.statements.invariant.so_far (rw c.in_default.is at c.in_ok-number.ensures.left)
