use Rattle.std.proofs.Common.{◌≡◌, ◌∙◌, false}
use Rattle.std.specs.List.{list_any}
use Rattle.std.specs.Str.{bytes_eq}
use Rattle.wire_scripts.specs.Scripts.{numbers_of}
use Rattle.wire_reader.proofs.TextTable.{any_of, added}
use Rattle.wire_scripts.proofs.SetTable.{same_procs, same_numbers}
use Rattle.wire_reader.proofs.numbered_sets.NumberedSets.add.Goals as goal

pub returns-clause-ok : goal.returns-clause-ok
returns-clause-ok c =
    let none : list_any (λ v. same_procs c.args.set.items v.items) c.self.inside.table.keys ≡ false =
    (λ i. list_any (λ k. same_numbers c.args.set.items k.items i) c.self.inside.table.keys)
    ∙ any_of (λ v. numbers_of v.items) (bytes_eq (numbers_of c.args.set.items)) c.self.inside.table.keys ∙ rw (c.self.view_is) c.requires.new in
    rw (← c.self.view_is) (added (λ v. numbers_of v.items) (λ a b. same_procs a.items b.items) c.self.inside.table.keys c.insert_full.new.self.keys c.args.set c.in_ok-insert_full.ensures.keys none)
