use Rattle.std.proofs.Common.{◌≡◌, ◌++◌, ◌∙◌, ap, subst, refl, length}
use Rattle.std.specs.Prelude.{OnOk, slice_get}
use Rattle.std.proofs.lemmas.Option.{slice_get_read}
use Rattle.wire_scripts.specs.Scripts.{calls_in}
use Rattle.wire_pattern_answers.specs.Notes.{process_notes}
use Rattle.wire_pattern_answers.proofs.Walks.{no_script, script_calls}
use Rattle.wire_pattern_answers.proofs.instance.add_process.Goals as goal

pub returns-in_default : goal.returns-in_default
returns-in_default c =
    no_script c.args.scripts.now c.processes.result.now c.args.caller.now.process c.args.caller.now.role c.args.row.now _ c.args.out.now.items c.processes.ensures.processes c.in_default.ensures.lookup.3

pub returns : goal.returns
returns c =
    let lookup = c.in-Some.ensures.lookup in
    let ps = c.processes.result.now in
    let calls = c.calls.ensures
    ∙ script_calls c.args.scripts.now ps c.args.caller.now.process c.in-Some.script.now c.processes.ensures.processes (slice_get_read ps (length ps) c.args.caller.now.process c.in-Some.script.now refl lookup.3.0 lookup.1) in
    subst (λ t. OnOk c.add_notes.result (c.add_notes.new.out.items ≡ c.args.out.now.items ++ t))
    (ap (λ cs. process_notes c.args.caller.now.role c.args.row.now cs c.as_slice.result.now) calls
    ∙ ap (process_notes c.args.caller.now.role c.args.row.now (calls_in (slice_get c.args.scripts.now.processes c.args.caller.now.process))) (c.as_slice.ensures.value ∙ c.in_ok-places.ensures)) c.add_notes.ensures
