use Rattle.std.proofs.Common.{◌||◌, ◌∙◌, [], ap, sym}
use Rattle.wire_instances.specs.Views.{cast_by}
use Rattle.wire_pattern_answers.specs.Notes.{is_told, is_noted, is_open, IsAnsweredApart}
use Rattle.wire_pattern_answers.proofs.Tellings.{told_too, together_closed, together_each}
use Rattle.wire_pattern_answers.proofs.instance.tell_together.Goals as goal

pub returns-then-not-is_open-clause-ok : goal.returns-then-not-is_open-clause-ok
returns-then-not-is_open-clause-ok c =
    let cast = cast_by c.args.cast.now in
    let notes = c.in_ok-notes.notes.items in
    together_closed c.args.pattern.now cast c.args.told.now c.add_all.new.self notes
    (told_too c.args.told.now c.add_all.new.self notes (IsAnsweredApart c.args.pattern.now cast []) c.in_ok-notes.ensures.ok
    (λ role line status three. c.in_ok-add_all.ensures role line status three
    ∙ ap (λ xs. is_told c.args.told.now role line status || is_noted xs role line status) c.as_slice.ensures.value))
    c.in_ok-notes.ensures.ok
    (ap (is_open c.add_all.new.self) (sym c.as_slice-2.ensures.value) ∙ sym c.is_open.ensures ∙ c.if-not-is_open.true)

pub returns-clause-ok : goal.returns-clause-ok
returns-clause-ok c =
    let cast = cast_by c.args.cast.now in
    let notes = c.in_ok-notes.notes.items in
    together_each c.args.pattern.now cast c.args.told.now c.add_all.new.self notes
    (told_too c.args.told.now c.add_all.new.self notes (IsAnsweredApart c.args.pattern.now cast []) c.in_ok-notes.ensures.ok
    (λ role line status three. c.in_ok-add_all.ensures role line status three
    ∙ ap (λ xs. is_told c.args.told.now role line status || is_noted xs role line status) c.as_slice.ensures.value))
    c.in_ok-notes.ensures.ok c.tell_apart.new.told c.in_ok-tell_apart.ensures.ok
