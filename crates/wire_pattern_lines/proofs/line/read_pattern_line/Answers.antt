use Rattle.std.proofs.Common.{◌∙◌}
use Rattle.wire_lines.proofs.FirstWords.{head_word}
use Rattle.wire_pattern_lines.proofs.FirstWords.{some_kind}
use Rattle.wire_pattern_lines.proofs.line.read_pattern_line.Goals as goal

pub returns-in-None-clause-none : goal.returns-in-None-clause-none
returns-in-None-clause-none c = λ said says. let k = some_kind said in c.in-None.ensures.none k.0 (head_word c.args.words.now _ _ _ says.0 ∙ k.1)
