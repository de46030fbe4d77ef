use Rattle.std.proofs.Common.{◌≡◌, rules, []}
use Rattle.std.proofs.lemmas.List.{drop_all, take_all}
use Rattle.wire_lines.proofs.Words.{words_at, words_none}
use Rattle.wire_lines.proofs.text.cut_word.Goals as goal

pub returns-in-Some-clause-words : goal.returns-in-Some-clause-words
returns-in-Some-clause-words c = words_at c.args.line.now c.in-Some.at c.in-Some.ensures

pub returns-in-None-clause-words : goal.returns-in-None-clause-words
returns-in-None-clause-words c =
    let front : c.split_at.result.0.now ≡ c.args.line.now = search (rules, take_all) in
    let back : c.split_at.result.1.now ≡ [] = search (rules, drop_all) in
    rw (front, back) (words_none c.args.line.now c.in-None.ensures)
