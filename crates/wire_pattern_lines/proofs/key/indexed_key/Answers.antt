use Rattle.std.proofs.Common.{◌≡◌, ◌∙◌, sym, true, map}
use Rattle.std.specs.List.{join_with_byte}
use Rattle.wire_lines.proofs.Colon.{and_left, and_right}
use Rattle.wire_pattern.specs.Lawful.{is_base}
use Rattle.wire_pattern_lines.specs.Said.{spelled_proc}
use Rattle.wire_pattern_lines.proofs.Bracket.{key_cut, last_once}
use Rattle.wire_pattern_lines.proofs.key.indexed_key.Goals as goal

pub returns-then-not-is_base-clause-none : goal.returns-then-not-is_base-clause-none
returns-then-not-is_base-clause-none c = λ k lawful e.
    let cut = key_cut c.args.base.now c.args.text.now k c.requires lawful e in
    let base : is_base c.args.base.now ≡ true = rw cut.0 (and_left _ _ lawful) in
    cc (c.if-not-is_base.ensures, base)

pub returns-in_default-clause-none : goal.returns-in_default-clause-none
returns-in_default-clause-none c = λ k lawful e.
    let cut = key_cut c.args.base.now c.args.text.now k c.requires lawful e in
    c.in_default.ensures.none (join_with_byte 44 (map spelled_proc k.indices)) cut.2

pub returns-in-None-clause-none : goal.returns-in-None-clause-none
returns-in-None-clause-none c = λ k lawful e.
    let cut = key_cut c.args.base.now c.args.text.now k c.requires lawful e in
    let none = rw c.in-None.is at c.in_ok-indices.ensures.none in
    none k.indices cut.1 (and_right _ _ lawful) (last_once c.in-Some.inner.now (join_with_byte 44 (map spelled_proc k.indices)) 93 (sym c.in-Some.ensures.found ∙ cut.2))
