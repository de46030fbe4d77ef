use Rattle.std.proofs.Common.{◌≡◌, ◌++◌, length}
use Rattle.wire_types.specs.Texts.{texts_of}
use Rattle.wire_lines.specs.Text.{words_of}
use Rattle.wire_lines.proofs.text.cut_words.Given as goal

abbrev pub invariant-left : goal.invariant-left
invariant-left l = texts_of l.words.items ++ words_of l.left ≡ words_of l.line

abbrev pub decreases-left : goal.decreases-left
decreases-left l = length l.left
