use Rattle.std.proofs.Common.{◌≡◌, sym, rules, [], inl, inr}
use Rattle.std.proofs.lemmas.List.{drop_all, take_all}
use Rattle.wire_lines.proofs.Pieces.{cut_at, cut_none, bytes_at}
use Rattle.wire_lines.proofs.text.cut_piece.Goals as goal

pub returns-in-Some-clause-pieces : goal.returns-in-Some-clause-pieces
returns-in-Some-clause-pieces c = cut_at c.args.bytes.now c.in-Some.at c.in-Some.ensures

pub returns-in-None-clause-pieces : goal.returns-in-None-clause-pieces
returns-in-None-clause-pieces c =
    let front : c.split_at.result.0.now ≡ c.args.bytes.now = search (rules, take_all) in
    let back : c.split_at.result.1.now ≡ [] = search (rules, drop_all) in
    rw (front, back) (cut_none c.args.bytes.now c.requires c.in-None.ensures)

pub returns-in-Some-clause-bytes : goal.returns-in-Some-clause-bytes
returns-in-Some-clause-bytes c = inl (bytes_at c.args.bytes.now c.in-Some.at c.in-Some.ensures)

pub returns-in-None-clause-bytes : goal.returns-in-None-clause-bytes
returns-in-None-clause-bytes c =
    let front : c.split_at.result.0.now ≡ c.args.bytes.now = search (rules, take_all) in
    let back : c.split_at.result.1.now ≡ [] = search (rules, drop_all) in
    inr (sym front, back)
