use Rattle.std.proofs.Common.{Ok, sym, subst}
use Rattle.wire_pattern.specs.Instances.{instance_text}
use Rattle.wire_instances.specs.Views.{cast_by}
use Rattle.wire_reader.specs.declared.Size.TheVariants.{OfVersion}
use Rattle.wire_reader.specs.Reads.{Reads}
use Rattle.wire_cutoff.specs.Views.{selection_by}
use Rattle.wire_pattern_waits.proofs.Told.{cast_is, selection_stops}
use Rattle.wire_pattern_answers.specs.Notes.{IsAnsweredThere, NotesAre}
use Rattle.wire_pattern_answers.proofs.ReadOnce.{noted_there}
use Rattle.wire_pattern_stages.specs.Views.{stages_by}
use Rattle.wire_pattern_stages.proofs.Seen.{seen_more}
use Rattle.wire_pattern_stages.proofs.Swept.{selection_kept, selection_waits, selection_fails, selection_puts}
use Rattle.wire_pattern_stages.proofs.cutoff.see_selection.Goals as goal

pub returns-clause-waits : goal.returns-clause-waits
returns-clause-waits c = λ role line.
    let p = c.args.question.now.pattern.now in
    let selection = selection_by c.args.selection.now in
    seen_more _ _ _ _
    (selection_stops p selection (cast_by c.in_ok-cast.cast) c.in_ok-text.scripts c.reads_once.ensures
    (cast_is p selection c.in_ok-cast.cast c.in_ok-cast.ensures.few c.in_ok-cast.ensures.of c.in_ok-cast.ensures.alone)
    c.in_ok-text.ensures.reads role line) (c.in_ok-shown.ensures.waits role line)

pub returns-clause-read : goal.returns-clause-read
returns-clause-read c =
    let p = c.args.question.now.pattern.now in
    let selection = selection_by c.args.selection.now in (
      c.in_ok-text.scripts,
      subst (λ cast. Reads OfVersion (instance_text p cast) (Ok c.in_ok-text.scripts))
          (cast_is p selection c.in_ok-cast.cast c.in_ok-cast.ensures.few c.in_ok-cast.ensures.of c.in_ok-cast.ensures.alone)
          c.in_ok-text.ensures.reads,
    )

pub returns-clause-kept : goal.returns-clause-kept
returns-clause-kept c = λ kept.
    let p = c.args.question.now.pattern.now in
    let selection = selection_by c.args.selection.now in
    let both = c.in_ok-shown.ensures.kept kept in (
      both.0,
      selection_kept p (stages_by c.args.question.now.stages.now) selection (cast_by c.in_ok-cast.cast) c.in_ok-text.scripts c.reads_once.ensures
          (cast_is p selection c.in_ok-cast.cast c.in_ok-cast.ensures.few c.in_ok-cast.ensures.of c.in_ok-cast.ensures.alone)
          c.in_ok-text.ensures.reads both.1,
    )

pub returns-clause-for_one : goal.returns-clause-for_one
returns-clause-for_one c =
    let p = c.args.question.now.pattern.now in
    let selection = selection_by c.args.selection.now in
    selection_waits p selection (cast_by c.in_ok-cast.cast) c.in_ok-text.scripts c.reads_once.ensures
    (cast_is p selection c.in_ok-cast.cast c.in_ok-cast.ensures.few c.in_ok-cast.ensures.of c.in_ok-cast.ensures.alone)
    c.in_ok-text.ensures.reads c.in_ok-shown.shown.for_one c.in_ok-shown.ensures.for_one

pub returns-clause-failing : goal.returns-clause-failing
returns-clause-failing c =
    let p = c.args.question.now.pattern.now in
    let selection = selection_by c.args.selection.now in
    selection_fails p selection (cast_by c.in_ok-cast.cast) c.in_ok-text.scripts c.reads_once.ensures
    (cast_is p selection c.in_ok-cast.cast c.in_ok-cast.ensures.few c.in_ok-cast.ensures.of c.in_ok-cast.ensures.alone)
    c.in_ok-text.ensures.reads c.in_ok-shown.shown.failing c.in_ok-shown.ensures.failing

pub returns-clause-remote : goal.returns-clause-remote
returns-clause-remote c =
    let p = c.args.question.now.pattern.now in
    let selection = selection_by c.args.selection.now in
    selection_puts p selection (cast_by c.in_ok-cast.cast) c.in_ok-text.scripts c.reads_once.ensures
    (cast_is p selection c.in_ok-cast.cast c.in_ok-cast.ensures.few c.in_ok-cast.ensures.of c.in_ok-cast.ensures.alone)
    c.in_ok-text.ensures.reads c.in_ok-shown.shown.remote c.in_ok-shown.ensures.remote

pub returns-clause-answers : goal.returns-clause-answers
returns-clause-answers c = λ asked settled.
    let p = c.args.question.now.pattern.now in
    let selection = selection_by c.args.selection.now in
    let cast = cast_by c.in_ok-cast.cast in
    c.in_ok-tell_asked.ensures.ok asked selection
    (cast_is p selection c.in_ok-cast.cast c.in_ok-cast.ensures.few c.in_ok-cast.ensures.of c.in_ok-cast.ensures.alone) settled
    (subst (λ notes. NotesAre notes (IsAnsweredThere p cast)) (sym c.as_slice.ensures.value)
    (noted_there p cast c.in_ok-text.scripts c.in_ok-shown.shown.notes.items c.reads_once.ensures c.in_ok-text.ensures.reads (c.in_ok-shown.ensures.notes asked)))
