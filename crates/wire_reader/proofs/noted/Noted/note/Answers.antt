use Rattle.std.proofs.Common.{◌∙◌, sym, subst}
use Rattle.std.specs.Prelude.{◌≢◌}
use Rattle.std.specs.List.{All}
use Rattle.indexmap.proofs.CallerLemmas.{insert_entry-new}
use Rattle.wire_reader.proofs.Notes.{absent, noted_last}
use Rattle.wire_reader.proofs.noted.Noted.note.Goals as goal

pub returns : goal.returns
returns c =
    let es = c.self.inside.table.entries in
    let key = c.in_ok-owned.owned in
    let apart = subst (All (λ e. e.0 ≢ c.args.targets.now)) (sym c.self.view_is) c.requires in
    let none = absent (λ v. v.items) c.args.targets.now es key c.in_ok-owned.ensures.items apart in
    noted_last (λ v. v.items) es c.insert.new.self.entries key c.args.number c.args.self.now c.args.targets.now c.self.view_is c.in_ok-owned.ensures.items
    (c.in_ok-insert.ensures.entries ∙ insert_entry-new _ c.self.inside.table key c.args.number none)
