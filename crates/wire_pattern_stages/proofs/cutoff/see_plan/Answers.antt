use Rattle.std.proofs.Common.{◌∙◌, ap, sym, subst, not}
use Rattle.std.specs.List.{list_all, list_any}
use Rattle.wire_types.specs.Outcome.{Ends}
use Rattle.wire_types.specs.Texts.{lists_of}
use Rattle.wire_scripts.specs.Scripts.{Scripts}
use Rattle.wire_core.specs.EndsAfter.{plain_ends}
use Rattle.wire_instances.specs.Views.{cast_by}
use Rattle.wire_pattern_answers.specs.Answers.{IsAnsweredAtLine}
use Rattle.wire_pattern_answers.specs.Notes.{NotesAre}
use Rattle.wire_pattern_stages.specs.Succeeding.{succeeds}
use Rattle.wire_pattern_stages.specs.Succeeding.{process_puts_remote}
use Rattle.wire_pattern_stages.proofs.cutoff.see_plan.Goals as goal

pub returns-clause-waits : goal.returns-clause-waits
returns-clause-waits c =
    c.in_ok-note_waits.ensures c.args.plan.now (ap lists_of c.as_slice-rows.ensures.value ∙ ap (λ (e : Ends). e.rows) c.in_ok-outcome.ensures.ok)

pub returns-clause-failing : goal.returns-clause-failing
returns-clause-failing c =
    ap not (c.rows_succeed.ensures
    ∙ ap (list_all (list_all succeeds)) (ap lists_of c.as_slice-rows.ensures.value ∙ ap (λ (e : Ends). e.rows) c.in_ok-outcome.ensures.ok))

pub returns-clause-remote : goal.returns-clause-remote
returns-clause-remote c =
    c.some_puts_remote.ensures ∙ ap (list_any process_puts_remote) (c.processes.ensures.processes ∙ ap (λ (s : Scripts). s.processes) c.scripts-2.ensures.scripts)

pub returns-clause-notes : goal.returns-clause-notes
returns-clause-notes c = λ asked.
    let same = c.scripts.ensures.scripts in
    subst (λ s. NotesAre c.in_ok-notes.notes.items (IsAnsweredAtLine c.args.question.now.pattern.now (cast_by c.args.cast.now) s)) same
    (c.in_ok-notes.ensures asked
    (ap lists_of c.as_slice-rows.ensures.value ∙ ap (λ (e : Ends). e.rows) c.in_ok-outcome.ensures.ok ∙ sym (ap (λ s. (plain_ends s).rows) same)))
