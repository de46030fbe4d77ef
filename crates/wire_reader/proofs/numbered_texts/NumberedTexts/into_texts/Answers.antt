use Rattle.std.proofs.Common.{◌≡◌, ◌∙◌, ap, sym, subst}
use Rattle.indexmap.proofs.CallerLemmas.{Drains-YieldsInOrder}
use Rattle.wire_types.specs.Texts.{lists_of}
use Rattle.wire_scripts.specs.Apart.{AreDistinct}
use Rattle.wire_reader.proofs.Apart.{keys_apart}
use Rattle.wire_reader.proofs.numbered_texts.NumberedTexts.into_texts.Goals as goal

pub new-requires-clause-apart : goal.new-requires-clause-apart
new-requires-clause-apart c =
    let ran = c.in_ok-list.ensures.ran in
    let gave = c.into_iter.ensures.into_iter_gives in
    let last = ran.1.2 tt in
    let all = Drains-YieldsInOrder _ _ _ ran.0 gave.2 (last.0, (ran.1.0, ran.1.1, last.1)) in
    let same : c.in_ok-list.list.items ≡ c.self.inside.set.keys = ran.2.0 ∙ all ∙ gave.0 in
    subst (λ texts. AreDistinct (lists_of texts)) (sym same) (keys_apart (λ v. v.items) c.self.inside.set.keys gave.3)

pub returns : goal.returns
returns c =
    let ran = c.in_ok-list.ensures.ran in
    let gave = c.into_iter.ensures.into_iter_gives in
    let last = ran.1.2 tt in
    let all = Drains-YieldsInOrder _ _ _ ran.0 gave.2 (last.0, (ran.1.0, ran.1.1, last.1)) in
    let same : c.in_ok-list.list.items ≡ c.self.inside.set.keys = ran.2.0 ∙ all ∙ gave.0 in
    c.new.ensures ∙ ap lists_of same ∙ c.self.view_is
