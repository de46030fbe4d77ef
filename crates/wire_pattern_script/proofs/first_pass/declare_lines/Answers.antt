use Rattle.wire_types.specs.Texts.{texts_of}
use Rattle.wire_reader.specs.Left.{statements_left}
use Rattle.wire_pattern_script.proofs.Judging.{refused}
use Rattle.wire_pattern_script.proofs.first_pass.declare_lines.Goals as goal

pub returns-in-Err-clause-err : goal.returns-in-Err-clause-err
returns-in-Err-clause-err c =
    refused _ _ _ _ (c.in-Some.line, texts_of c.next_words.new.words.items) (statements_left c.next_words.new.self) _ _ c.in-Err.fault
    (rw c.in-Some.is at c.in_ok-line.ensures.left)
    c.statements.invariant.so_far
    (rw c.deref.ensures.value at c.in-Err.ensures.err)
