use Rattle.std.proofs.Common.{inl, inr, ap, refl, Err}
use Rattle.std.proofs.lemmas.Result.{on_ok_weaker}
use Rattle.wire_types.specs.declared.Fault.TheVariants.{Read}
use Rattle.wire_types.specs.Forms.{is_json}
use Rattle.wire_command.proofs.Handed.{handed_on, not_on_ok, same_error, no_read_writing}
use Rattle.wire_command.proofs.Handed.{err_always}
use Rattle.wire_commands.proofs.Followed.{of_file, of_order, of_steps, no_read_of_steps, followed_ok, followed_err}
use Rattle.wire_commands.proofs.follow.follow_plan.Goals as goal

pub returns-in_err-scripts-clause-ok : goal.returns-in_err-scripts-clause-ok
returns-in_err-scripts-clause-ok g c =
    not_on_ok c.from_residual.result c.in_err-scripts.field-0.0 _ c.from_residual.ensures.1

pub returns-in_err-scripts-clause-quiet : goal.returns-in_err-scripts-clause-quiet
returns-in_err-scripts-clause-quiet g c =
    not_on_ok c.from_residual.result c.in_err-scripts.field-0.0 _ c.from_residual.ensures.1

pub returns-in_err-scripts-clause-read_failed : goal.returns-in_err-scripts-clause-read_failed
returns-in_err-scripts-clause-read_failed g c is =
    inl (c.in_err-scripts.ensures.read (ap Err (same_error c.from_residual.result c.in_err-scripts.field-0.0 _ c.from_residual.ensures.1 is)))

pub returns-in_err-text-clause-ok : goal.returns-in_err-text-clause-ok
returns-in_err-text-clause-ok g c =
    not_on_ok c.from_residual-in_err-text.result c.in_err-text.field-0.0 _ c.from_residual-in_err-text.ensures.1

pub returns-in_err-text-clause-quiet : goal.returns-in_err-text-clause-quiet
returns-in_err-text-clause-quiet g c =
    not_on_ok c.from_residual-in_err-text.result c.in_err-text.field-0.0 _ c.from_residual-in_err-text.ensures.1

pub returns-in_err-scripts-clause-err : goal.returns-in_err-scripts-clause-err
returns-in_err-scripts-clause-err g c =
    handed_on c.from_residual.result c.in_err-scripts.field-0.0 _ c.from_residual.ensures.1 (inl (of_file _ _ _ c.in_err-scripts.ensures.err, refl))

pub returns-in_err-scripts-clause-unfailed : goal.returns-in_err-scripts-clause-unfailed
returns-in_err-scripts-clause-unfailed g c =
    handed_on c.from_residual.result c.in_err-scripts.field-0.0 _ c.from_residual.ensures.1 (λ memory read. (c.in_err-scripts.ensures.unfailed memory read, refl))

pub returns-in-Err-clause-err : goal.returns-in-Err-clause-err
returns-in-Err-clause-err g c = inl (of_order _ _ _ _ c.in_ok-scripts.ensures.ok c.in-Err.ensures.err, refl)

pub returns-in-Err-clause-unfailed : goal.returns-in-Err-clause-unfailed
returns-in-Err-clause-unfailed g c memory read = (c.in_ok-scripts.ensures.quiet, c.in-Err.ensures.unfailed memory read)

pub returns-in-Err-clause-read_failed : goal.returns-in-Err-clause-read_failed
returns-in-Err-clause-read_failed g c is = inr (c.in-Err.ensures.read (ap Err (same_error (Err c.in-Err.fault) c.in-Err.fault Read refl is)), c.in_ok-scripts.scripts, c.in_ok-scripts.ensures.ok)

pub returns-in_err-text-clause-err : goal.returns-in_err-text-clause-err
returns-in_err-text-clause-err g c =
    handed_on c.from_residual-in_err-text.result c.in_err-text.field-0.0 _ c.from_residual-in_err-text.ensures.1
    (inl (of_steps _ _ c.in_ok-scripts.scripts c.in-Ok.order.items c.as_slice.result.now _ c.as_slice.ensures.value c.in_ok-scripts.ensures.ok c.in-Ok.ensures.ok c.in_err-text.ensures.err, refl))

pub returns-in_err-text-clause-read_failed : goal.returns-in_err-text-clause-read_failed
returns-in_err-text-clause-read_failed g c is =
    absurd (no_read_of_steps c.in_ok-scripts.scripts _ _ c.in_err-text.ensures.err (same_error _ _ _ c.from_residual-in_err-text.ensures.1 is))

pub returns-in_err-text-clause-unfailed : goal.returns-in_err-text-clause-unfailed
returns-in_err-text-clause-unfailed g c =
    handed_on c.from_residual-in_err-text.result c.in_err-text.field-0.0 _ c.from_residual-in_err-text.ensures.1 (λ memory read. (c.in_ok-scripts.ensures.quiet, c.in-Ok.ensures.quiet))

pub returns-clause-ok : goal.returns-clause-ok
returns-clause-ok g c =
    followed_ok (is_json c.args.manner.form) _ _ _ _ c.in_ok-scripts.scripts c.in-Ok.order.items c.as_slice.result.now c.in_ok-text.text.items c.as_slice-2.result.now c.write_text.result c.as_slice.ensures.value
    c.in_ok-scripts.ensures.ok c.in-Ok.ensures.ok (rw c.is_json.ensures at c.in_ok-text.ensures.ok) c.as_slice-2.ensures.value c.write_text.ensures.ok

pub returns-clause-quiet : goal.returns-clause-quiet
returns-clause-quiet g c = on_ok_weaker c.write_text.result (λ quiet. (c.in_ok-scripts.ensures.quiet, c.in-Ok.ensures.quiet, quiet)) c.write_text.ensures.quiet

pub returns-clause-err : goal.returns-clause-err
returns-clause-err g c =
    followed_err (is_json c.args.manner.form) _ _ (g.W.Sink.written c.args.writer.now)
    (g.W.Sink.written c.write_text.new.sink) c.in_ok-scripts.scripts c.in-Ok.order.items c.as_slice.result.now c.in_ok-text.text.items
    c.as_slice-2.result.now _ _ c.write_text.result c.as_slice.ensures.value c.in_ok-scripts.ensures.ok c.in-Ok.ensures.ok (rw c.is_json.ensures at c.in_ok-text.ensures.ok) c.as_slice-2.ensures.value
    c.write_text.ensures.front c.write_text.ensures.failed

pub returns-clause-read_failed : goal.returns-clause-read_failed
returns-clause-read_failed g c is =
    absurd (no_read_writing (g.W.Sink.written c.args.writer.now) (g.W.Sink.written c.write_text.new.sink) c.as_slice-2.result.now c.write_text.result c.write_text.ensures.front is)

pub returns-clause-unfailed : goal.returns-clause-unfailed
returns-clause-unfailed g c = err_always c.write_text.result _ (λ e memory read. (c.in_ok-scripts.ensures.quiet, c.in-Ok.ensures.quiet))
