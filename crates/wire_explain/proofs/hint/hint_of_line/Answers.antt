use Rattle.std.proofs.Common.{option_map, rules}
use Rattle.wire_types.specs.Texts.{texts_of}
use Rattle.wire_explain.proofs.Lines.{other_line}
use Rattle.wire_explain.proofs.hint.hint_of_line.Goals as goal

pub returns : goal.returns
returns c = other_line c.args.language (texts_of c.args.words.now) (texts_of c.as_slice-3.result.now) (option_map (λ w. w.now) c.word_in-2.result)
    (option_map (λ w. w.now) c.hint_for-2.result) (search rules) (search rules) (search rules) c.word_in-2.ensures c.hint_for-2.ensures
