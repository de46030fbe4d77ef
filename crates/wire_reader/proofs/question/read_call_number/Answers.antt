use Rattle.std.proofs.Common.{◌∙◌, sym, arith}
use Rattle.wire_reader.proofs.QuestionRead.{not_zero, not_past}
use Rattle.wire_reader.proofs.question.read_call_number.Goals as goal

pub returns-then-number-eq0-clause-none : goal.returns-then-number-eq0-clause-none
returns-then-number-eq0-clause-none c =
    not_zero c.args.word.now c.in-Some.number c.args.count (sym c.as_bytes.ensures.value ∙ c.in-Some.ensures.found.0) c.in-Some.ensures.found.1 (omega arith)

pub returns-then-number-count-clause-none : goal.returns-then-number-count-clause-none
returns-then-number-count-clause-none c =
    not_past c.args.word.now c.in-Some.number c.args.count (sym c.as_bytes.ensures.value ∙ c.in-Some.ensures.found.0) c.in-Some.ensures.found.1 (omega arith)
