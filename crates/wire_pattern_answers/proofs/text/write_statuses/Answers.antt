use Rattle.std.proofs.Common.{◌∙◌, ap, ◌++◌, codes}
use Rattle.wire_pattern_answers.specs.Lines.{word_if}
use Rattle.wire_pattern_answers.proofs.Texts.{four}
use Rattle.wire_pattern_answers.proofs.text.write_statuses.Goals as goal

pub returns : goal.returns
returns c =
    four c.args.out.now.items c.write_if.new.out.items c.write_if-2.new.out.items c.write_if-3.new.out.items c.write_if-4.new.out.items _ _ _ _
    c.in_ok-write_if.ensures c.in_ok-write_if-2.ensures c.in_ok-write_if-3.ensures
    (c.in_ok-write_if-4.ensures ∙ ap (λ b. c.write_if-3.new.out.items ++ word_if b (codes " none")) c.is_never.ensures)
