use Rattle.std.proofs.Common.{inl, refl, ap, Err}
use Rattle.std.proofs.lemmas.Result.{on_ok_weaker}
use Rattle.wire_command.proofs.Handed.{handed_on, not_ok, not_on_ok, same_error, err_always, no_failed_read}
use Rattle.wire_command.proofs.Commanded.{file_stops, writes_read, breaks_read}
use Rattle.wire_command.proofs.streamed.run_streamed.Goals as goal

pub returns-in_err-scripts-clause-ok : goal.returns-in_err-scripts-clause-ok
returns-in_err-scripts-clause-ok g c = not_ok c.from_residual.result c.in_err-scripts.field-0.0 _ c.from_residual.ensures.1

pub returns-in_err-scripts-clause-quiet : goal.returns-in_err-scripts-clause-quiet
returns-in_err-scripts-clause-quiet g c = not_on_ok c.from_residual.result c.in_err-scripts.field-0.0 _ c.from_residual.ensures.1

pub returns-in_err-scripts-clause-read_failed : goal.returns-in_err-scripts-clause-read_failed
returns-in_err-scripts-clause-read_failed g c is =
    c.in_err-scripts.ensures.read (ap Err (same_error c.from_residual.result c.in_err-scripts.field-0.0 _ c.from_residual.ensures.1 is))

pub returns-in_err-scripts-clause-err : goal.returns-in_err-scripts-clause-err
returns-in_err-scripts-clause-err g c =
    handed_on c.from_residual.result c.in_err-scripts.field-0.0 _ c.from_residual.ensures.1 (inl (file_stops _ _ _ c.in_err-scripts.ensures.err, refl))

pub returns-in_err-scripts-clause-unfailed : goal.returns-in_err-scripts-clause-unfailed
returns-in_err-scripts-clause-unfailed g c =
    handed_on c.from_residual.result c.in_err-scripts.field-0.0 _ c.from_residual.ensures.1 (λ memory read. c.in_err-scripts.ensures.unfailed memory read)

pub returns-clause-ok : goal.returns-clause-ok
returns-clause-ok g c =
    writes_read (g.C.StreamedCommand.tells c.args.run.command.now c.args.run.options.form c.args.run.options.name.now) _ _ _ c.in_ok-scripts.scripts _ c.write.result
    c.in_ok-scripts.ensures.ok (rw c.as_slice.ensures.value at c.write.ensures.ok)

pub returns-clause-quiet : goal.returns-clause-quiet
returns-clause-quiet g c = on_ok_weaker c.write.result (λ quiet. (c.in_ok-scripts.ensures.quiet, quiet)) c.write.ensures.quiet

pub returns-clause-err : goal.returns-clause-err
returns-clause-err g c =
    breaks_read (g.C.StreamedCommand.tells c.args.run.command.now c.args.run.options.form c.args.run.options.name.now) (g.C.StreamedCommand.refuses c.args.run.command.now) _ _ _
    c.in_ok-scripts.scripts _ _ _ c.write.result c.in_ok-scripts.ensures.ok (rw c.as_slice.ensures.value at c.write.ensures.err)

pub returns-clause-read_failed : goal.returns-clause-read_failed
returns-clause-read_failed g c is = absurd (no_failed_read c.write.result c.write.ensures.no_read is)

pub returns-clause-unfailed : goal.returns-clause-unfailed
returns-clause-unfailed g c = err_always c.write.result _ (λ e memory read. c.in_ok-scripts.ensures.quiet)
