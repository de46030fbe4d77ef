use Rattle.std.proofs.Common.{◌≡◌, ◌∙◌, sym, map, true≢false}
use Rattle.std.specs.List.{slice_split}
use Rattle.wire_types.specs.Texts.{texts_of}
use Rattle.wire_lines.proofs.Joined.{comma}
use Rattle.wire_pattern_lines.specs.Said.{spelled_item, is_lawful_item}
use Rattle.wire_pattern_lines.specs.Views.{view_item}
use Rattle.wire_pattern_lines.proofs.Parts.{joined, some_parts, no_set, lawful_set}
use Rattle.wire_pattern_lines.proofs.sets.set_of.Goals as goal

pub returns-in-Some-clause-found : goal.returns-in-Some-clause-found
returns-in-Some-clause-found c =
    let f = rw c.in-Some.is at c.in_ok-items.ensures.found in
    let p : texts_of c.deref.result.now ≡ slice_split comma c.args.word.now = rw c.deref.ensures.value c.in_ok-parts.ensures in
    let e : map spelled_item (map view_item c.in-Some.items.items) ≡ slice_split comma c.args.word.now = f.0 ∙ p in
    let is = map view_item c.in-Some.items.items in
    (joined spelled_item is_lawful_item c.args.word.now is e, lawful_set is (some_parts spelled_item is_lawful_item c.args.word.now is e) f.1)

pub returns-clause-none : goal.returns-clause-none
returns-clause-none c =
    let none = rw c.in-None.is at c.in_ok-items.ensures.none in
    let p : texts_of c.deref.result.now ≡ slice_split comma c.args.word.now = rw c.deref.ensures.value c.in_ok-parts.ensures in
    no_set c.args.word.now (λ e. true≢false (sym (c.if-is_text.ensures.1 e))) (λ is lawful e. none is lawful (p ∙ e))
