use Rattle.std.proofs.Common.{◌∙◌, ap, refl}
use Rattle.wire_reader.specs.FirstPass.{number_or_count}
use Rattle.wire_reader.specs.Drafted.{declared_of}
use Rattle.wire_reader.specs.Tabled.{with_text}
use Rattle.wire_reader.specs.Targets.{named_in}
use Rattle.wire_reader.proofs.Seen.{goes_on_self, number_kept}
use Rattle.wire_reader.proofs.Notes.{note_says, noted_on}
use Rattle.wire_reader.proofs.second_pass.number_targets.Goals as goal

pub returns-in-Some-clause-number : goal.returns-in-Some-clause-number
returns-in-Some-clause-number c = λ later goes.
    let d = declared_of c.args.draft.now in
    let sets = c.args.numbering.now.tables.sets in
    let says = note_says d sets c.args.numbering.now.noted (c.args.targets.now, c.in-Some.number) c.requires.noted c.in-Some.ensures.found in
    says.number ∙ number_kept sets later (named_in d c.args.targets.now) says.there goes

pub returns-in-Some-clause-tables : goal.returns-in-Some-clause-tables
returns-in-Some-clause-tables c =
    let d = declared_of c.args.draft.now in
    let says = note_says d c.args.numbering.now.tables.sets c.args.numbering.now.noted (c.args.targets.now, c.in-Some.number) c.requires.noted c.in-Some.ensures.found in
    rw says.there refl

pub returns-clause-noted : goal.returns-clause-noted
returns-clause-noted c =
    let d = declared_of c.args.draft.now in
    let sets = c.args.numbering.now.tables.sets in
    let new = c.number_set.new.sets in
    let members = c.in_ok-members.ensures in
    noted_on d sets new c.args.numbering.now.noted c.note.new.self c.args.targets.now c.in_ok-number.number c.requires.noted (c.in_ok-number.ensures.sets ∙ ap (with_text sets) members)
    (c.in_ok-number.ensures.number new (goes_on_self new) ∙ ap (number_or_count new) members) c.in_ok-note.ensures
