use Rattle.std.proofs.Common.{◌≡◌, ◌∙◌, ap, map}
use Rattle.indexmap.proofs.CallerLemmas.{Drains-YieldsInOrder}
use Rattle.wire_scripts.specs.Scripts.{numbers_of}
use Rattle.wire_reader.proofs.numbered_sets.NumberedSets.into_sets.Goals as goal

pub returns : goal.returns
returns c =
    let ran = c.in_ok-list.ensures.ran in
    let gave = c.into_iter.ensures.into_iter_gives in
    let last = ran.1.2 tt in
    let all = Drains-YieldsInOrder _ _ _ ran.0 gave.2 (last.0, (ran.1.0, ran.1.1, last.1)) in
    let same : c.in_ok-list.list.items ≡ c.self.inside.table.keys = ran.2.0 ∙ all ∙ gave.0 in
    c.new.ensures ∙ ap (map (λ v. numbers_of v.items)) same ∙ c.self.view_is
