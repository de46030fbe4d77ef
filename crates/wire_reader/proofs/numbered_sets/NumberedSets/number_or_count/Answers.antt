use Rattle.std.proofs.Common.{◌∙◌, ap, position}
use Rattle.std.specs.Str.{bytes_eq}
use Rattle.wire_scripts.specs.Scripts.{numbers_of}
use Rattle.wire_reader.proofs.TextTable.{position_of, place_none, place_some}
use Rattle.wire_scripts.proofs.SetTable.{same_numbers}
use Rattle.wire_reader.proofs.numbered_sets.NumberedSets.number_or_count.Goals as goal

pub returns-in-Some : goal.returns-in-Some
returns-in-Some c = place_some (bytes_eq (numbers_of c.args.set.now)) c.args.self.now (
    c.in-Some.ensures.index
    ∙ (λ i. position (λ k. same_numbers c.args.set.now k.items i) c.self.inside.table.keys)
    ∙ position_of (λ v. numbers_of v.items) (bytes_eq (numbers_of c.args.set.now)) c.self.inside.table.keys
    ∙ ap (position (bytes_eq (numbers_of c.args.set.now))) c.self.view_is)

pub returns-in-None : goal.returns-in-None
returns-in-None c = c.len.ensures ∙ place_none (bytes_eq (numbers_of c.args.set.now)) c.args.self.now (
    c.in-None.ensures.index
    ∙ (λ i. position (λ k. same_numbers c.args.set.now k.items i) c.self.inside.table.keys)
    ∙ position_of (λ v. numbers_of v.items) (bytes_eq (numbers_of c.args.set.now)) c.self.inside.table.keys
    ∙ ap (position (bytes_eq (numbers_of c.args.set.now))) c.self.view_is)
