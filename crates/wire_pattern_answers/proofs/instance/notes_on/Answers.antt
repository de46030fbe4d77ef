use Rattle.std.proofs.Common.{◌∙◌, ap, sym, subst}
use Rattle.wire_types.specs.Outcome.{Ends}
use Rattle.wire_types.specs.Texts.{lists_of}
use Rattle.wire_core.specs.EndsAfter.{plain_ends}
use Rattle.wire_instances.specs.Views.{cast_by}
use Rattle.wire_pattern_answers.specs.Answers.{IsAnsweredAtLine}
use Rattle.wire_pattern_answers.specs.Notes.{NotesAre}
use Rattle.wire_pattern_answers.proofs.instance.notes_on.Goals as goal

pub returns-clause-ok : goal.returns-clause-ok
returns-clause-ok c =
    let same = c.scripts.ensures.scripts in
    subst (λ s. NotesAre c.in_ok-notes.notes.items (IsAnsweredAtLine c.args.pattern.now (cast_by c.args.cast.now) s)) same
    (c.in_ok-notes.ensures
    (ap lists_of c.as_slice.ensures.value ∙ ap (λ (e : Ends). e.rows) c.in_ok-outcome.ensures.ok ∙ sym (ap (λ s. (plain_ends s).rows) same)))
