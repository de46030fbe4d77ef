use Rattle.std.proofs.Common.{inl, refl, ap, Err}
use Rattle.std.proofs.lemmas.Result.{on_ok_weaker}
use Rattle.wire_command.proofs.Handed.{handed_on, not_ok, not_on_ok, same_error, no_read_writing, memory_no_read}
use Rattle.wire_command.proofs.Handed.{err_always}
use Rattle.wire_commands.specs.Check.{StopsBeforeFindings}
use Rattle.wire_portable_commands.specs.CheckPortable.{IsPortableVerdict}
use Rattle.wire_portable_commands.proofs.Answered.{wrote_all, wrote_front}
use Rattle.wire_portable_commands.proofs.Told.{clean_kept}
use Rattle.wire_portable_commands.proofs.check.check_portable.Goals as goal

pub returns-in_err-scripts-clause-ok : goal.returns-in_err-scripts-clause-ok
returns-in_err-scripts-clause-ok g c = not_ok c.from_residual.result c.in_err-scripts.field-0.0 _ c.from_residual.ensures.1

pub returns-in_err-scripts-clause-quiet : goal.returns-in_err-scripts-clause-quiet
returns-in_err-scripts-clause-quiet g c = not_on_ok c.from_residual.result c.in_err-scripts.field-0.0 _ c.from_residual.ensures.1

pub returns-in_err-scripts-clause-read_failed : goal.returns-in_err-scripts-clause-read_failed
returns-in_err-scripts-clause-read_failed g c is =
    c.in_err-scripts.ensures.read (ap Err (same_error c.from_residual.result c.in_err-scripts.field-0.0 _ c.from_residual.ensures.1 is))

pub returns-in_err-scripts-clause-err : goal.returns-in_err-scripts-clause-err
returns-in_err-scripts-clause-err g c =
    handed_on c.from_residual.result c.in_err-scripts.field-0.0 _ c.from_residual.ensures.1 (inl (c.in_err-scripts.ensures.err, refl))

pub returns-in_err-scripts-clause-unfailed : goal.returns-in_err-scripts-clause-unfailed
returns-in_err-scripts-clause-unfailed g c =
    handed_on c.from_residual.result c.in_err-scripts.field-0.0 _ c.from_residual.ensures.1 (λ memory read. c.in_err-scripts.ensures.unfailed memory read)

pub returns-in_err-answer-clause-ok : goal.returns-in_err-answer-clause-ok
returns-in_err-answer-clause-ok g c = not_ok c.from_residual-in_err-answer.result c.in_err-answer.field-0.0 _ c.from_residual-in_err-answer.ensures.1

pub returns-in_err-answer-clause-quiet : goal.returns-in_err-answer-clause-quiet
returns-in_err-answer-clause-quiet g c = not_on_ok c.from_residual-in_err-answer.result c.in_err-answer.field-0.0 _ c.from_residual-in_err-answer.ensures.1

pub returns-in_err-answer-clause-err : goal.returns-in_err-answer-clause-err
returns-in_err-answer-clause-err g c =
    handed_on c.from_residual-in_err-answer.result c.in_err-answer.field-0.0 _ c.from_residual-in_err-answer.ensures.1
    (inl (inl c.in_err-answer.ensures.err, refl))

pub returns-in_err-answer-clause-read_failed : goal.returns-in_err-answer-clause-read_failed
returns-in_err-answer-clause-read_failed g c is =
    absurd (memory_no_read c.from_residual-in_err-answer.result c.in_err-answer.field-0.0 c.from_residual-in_err-answer.ensures.1 c.in_err-answer.ensures.err is)

pub returns-in_err-answer-clause-unfailed : goal.returns-in_err-answer-clause-unfailed
returns-in_err-answer-clause-unfailed g c =
    handed_on c.from_residual-in_err-answer.result c.in_err-answer.field-0.0 _ c.from_residual-in_err-answer.ensures.1 (λ memory read. c.in_ok-scripts.ensures.quiet)

pub returns-clause-ok : goal.returns-clause-ok
returns-clause-ok g c =
    wrote_all (IsPortableVerdict c.args.asked.manner.size (g.R.Source.coming c.args.reader.now) c.args.asked.anywhere c.args.asked.manner.form c.args.asked.manner.name.now) _ _ _ c.in_ok-scripts.scripts _ c.in_ok-answer.answer.text.items c.in_ok-answer.answer.ended c.write_answer.result
    c.in_ok-scripts.ensures.ok (record { spelling = _; spelled = c.in_ok-scripts.ensures.spelled; tells = rw c.as_slice.ensures.value at c.in_ok-answer.ensures.ok }) c.write_answer.ensures.ok

pub returns-clause-quiet : goal.returns-clause-quiet
returns-clause-quiet g c = on_ok_weaker c.write_answer.result (λ quiet. (c.in_ok-scripts.ensures.quiet, quiet)) c.write_answer.ensures.quiet

pub returns-clause-err : goal.returns-clause-err
returns-clause-err g c =
    wrote_front (IsPortableVerdict c.args.asked.manner.size (g.R.Source.coming c.args.reader.now) c.args.asked.anywhere c.args.asked.manner.form c.args.asked.manner.name.now) (StopsBeforeFindings c.args.asked.manner.size (g.R.Source.coming c.args.reader.now))
    (g.R.Source.coming c.args.reader.now) (g.W.Sink.written c.args.writer.now) (g.W.Sink.written c.write_answer.new.writer) c.in_ok-scripts.scripts _ c.in_ok-answer.answer.text.items
    c.in_ok-answer.answer.ended _ _ c.write_answer.result c.in_ok-scripts.ensures.ok
    (record { spelling = _; spelled = c.in_ok-scripts.ensures.spelled; tells = rw c.as_slice.ensures.value at c.in_ok-answer.ensures.ok }) c.write_answer.ensures.front c.write_answer.ensures.failed

pub returns-clause-read_failed : goal.returns-clause-read_failed
returns-clause-read_failed g c is =
    absurd (no_read_writing (g.W.Sink.written c.args.writer.now) (g.W.Sink.written c.write_answer.new.writer) c.in_ok-answer.answer.text.items c.write_answer.result c.write_answer.ensures.front is)

pub returns-clause-unfailed : goal.returns-clause-unfailed
returns-clause-unfailed g c = err_always c.write_answer.result _ (λ e memory read. c.in_ok-scripts.ensures.quiet)

pub returns-clause-kept : goal.returns-clause-kept
returns-clause-kept g c =
    clean_kept c.args.asked.anywhere c.args.asked.manner.form c.args.asked.manner.name.now _ c.in_ok-scripts.scripts _ c.in_ok-answer.answer.text.items c.in_ok-answer.answer.ended _ c.write_answer.result
    (record { spelling = _; spelled = c.in_ok-scripts.ensures.spelled; tells = rw c.as_slice.ensures.value at c.in_ok-answer.ensures.ok }) c.write_answer.ensures.ok
