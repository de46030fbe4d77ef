use Rattle.std.proofs.Common.{◌≡◌, ◌∙◌, false}
use Rattle.std.specs.List.{list_any}
use Rattle.std.specs.Str.{bytes_eq}
use Rattle.wire_reader.proofs.TextTable.{any_of, added}
use Rattle.wire_reader.proofs.numbered_texts.NumberedTexts.add.Goals as goal

pub returns-clause-ok : goal.returns-clause-ok
returns-clause-ok c =
    let none : list_any (λ v. bytes_eq c.in_ok-owned.owned.items v.items) c.self.inside.set.keys ≡ false =
    any_of (λ v. v.items) (bytes_eq c.in_ok-owned.owned.items) c.self.inside.set.keys ∙ rw (c.self.view_is, c.in_ok-owned.ensures.items) c.requires.new in
    rw (← c.self.view_is, ← c.in_ok-owned.ensures.items) (added (λ v. v.items) (λ a b. bytes_eq a.items b.items) c.self.inside.set.keys c.insert_full.new.self.keys c.in_ok-owned.owned
    c.in_ok-insert_full.ensures.keys none)
