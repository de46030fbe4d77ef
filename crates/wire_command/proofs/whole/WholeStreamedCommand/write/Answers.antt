use Rattle.std.proofs.Common.{inl, refl}
use Rattle.wire_command.proofs.Handed.{handed_on, not_ok, not_on_ok, front_is_no_read}
use Rattle.wire_command.proofs.Commanded.{writes_answer, breaks_answer}
use Rattle.wire_command.proofs.whole.WholeStreamedCommand.write.Goals as goal

pub returns-in_err-answer-clause-ok : goal.returns-in_err-answer-clause-ok
returns-in_err-answer-clause-ok g c = not_ok c.from_residual.result c.in_err-answer.field-0.0 _ c.from_residual.ensures.1

pub returns-in_err-answer-clause-quiet : goal.returns-in_err-answer-clause-quiet
returns-in_err-answer-clause-quiet g c = not_on_ok c.from_residual.result c.in_err-answer.field-0.0 _ c.from_residual.ensures.1

pub returns-in_err-answer-clause-err : goal.returns-in_err-answer-clause-err
returns-in_err-answer-clause-err g c =
    handed_on c.from_residual.result c.in_err-answer.field-0.0 _ c.from_residual.ensures.1 (inl (c.in_err-answer.ensures.err, refl))

pub returns-in_err-answer-clause-no_read : goal.returns-in_err-answer-clause-no_read
returns-in_err-answer-clause-no_read g c =
    handed_on c.from_residual.result c.in_err-answer.field-0.0 _ c.from_residual.ensures.1 c.in_err-answer.ensures.no_read

pub returns-clause-ok : goal.returns-clause-ok
returns-clause-ok g c =
    writes_answer _ _ _ c.in_ok-answer.answer.text.items c.in_ok-answer.answer.ended c.write_answer.result c.in_ok-answer.ensures.ok c.write_answer.ensures.ok

pub returns-clause-err : goal.returns-clause-err
returns-clause-err g c =
    breaks_answer _ _ (g.W.Sink.written c.args.writer.now) (g.W.Sink.written c.write_answer.new.writer) c.in_ok-answer.answer.text.items c.in_ok-answer.answer.ended _ c.write_answer.result
    c.in_ok-answer.ensures.ok c.write_answer.ensures.front c.write_answer.ensures.failed

pub returns-clause-no_read : goal.returns-clause-no_read
returns-clause-no_read g c =
    front_is_no_read (g.W.Sink.written c.args.writer.now) (g.W.Sink.written c.write_answer.new.writer) c.in_ok-answer.answer.text.items c.write_answer.result c.write_answer.ensures.front
