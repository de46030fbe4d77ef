use Rattle.std.proofs.Common.{◌≡◌, ◌++◌, drop}
use Rattle.wire_pattern_answers.specs.Lines.{answers_text}
use Rattle.wire_pattern_answers.proofs.text.write_answers.Given as goal

abbrev pub invariant-loop-answers : goal.invariant-loop-answers
invariant-loop-answers l =
    l.out.items ++ answers_text l.pattern (drop l.answers-index l.all) ≡ l.fn.out.items ++ answers_text l.pattern l.all
