use Rattle.std.proofs.Common.{inl, refl}
use Rattle.wire_command.proofs.Handed.{handed_on, same_error}
use Rattle.wire_pattern_commands.proofs.CheckedPattern.{file_stops, sweep_stops, no_read_judging, writes_verdict, verdict_err, clean_one_end}
use Rattle.wire_pattern_commands.proofs.check.check_pattern.Goals as goal

pub returns-in_err-pattern-clause-err : goal.returns-in_err-pattern-clause-err
returns-in_err-pattern-clause-err g c =
    handed_on c.from_residual.result c.in_err-pattern.field-0.0 _ c.from_residual.ensures.1
    (inl (file_stops (g.R.Source.coming c.args.reader.now) c.in_err-pattern.field-0.0 c.in_err-pattern.ensures.err, refl))

pub returns-in_err-answer-clause-err : goal.returns-in_err-answer-clause-err
returns-in_err-answer-clause-err g c =
    handed_on c.from_residual-in_err-answer.result c.in_err-answer.field-0.0 _ c.from_residual-in_err-answer.ensures.1
    (inl (sweep_stops (g.R.Source.coming c.args.reader.now) c.in_ok-pattern.pattern c.in_err-answer.field-0.0 c.in_ok-pattern.ensures.ok c.in_err-answer.ensures.err, refl))

pub returns-in_err-answer-clause-read_failed : goal.returns-in_err-answer-clause-read_failed
returns-in_err-answer-clause-read_failed g c is =
    absurd (no_read_judging c.in_ok-pattern.pattern _ c.in_err-answer.ensures.err (same_error _ _ _ c.from_residual-in_err-answer.ensures.1 is))

pub returns-clause-ok : goal.returns-clause-ok
returns-clause-ok g c =
    writes_verdict (g.R.Source.coming c.args.reader.now) _ _ c.in_ok-pattern.pattern c.args.asked c.in_ok-answer.answer.text.items c.in_ok-answer.answer.ended
    c.write_answer.result
    (record { read = c.in_ok-pattern.ensures.ok; sound = c.note_sound.ensures; within = c.in_ok-answer.ensures.within })
    c.in_ok-answer.ensures.ok c.write_answer.ensures.ok

pub returns-clause-err : goal.returns-clause-err
returns-clause-err g c =
    verdict_err (g.R.Source.coming c.args.reader.now) (g.W.Sink.written c.args.writer.now) (g.W.Sink.written c.write_answer.new.writer) c.in_ok-pattern.pattern
    c.args.asked c.in_ok-answer.answer.text.items c.in_ok-answer.answer.ended _ _ c.write_answer.result
    (record { read = c.in_ok-pattern.ensures.ok; sound = c.note_sound.ensures; within = c.in_ok-answer.ensures.within })
    c.in_ok-answer.ensures.ok
    c.write_answer.ensures.front
    c.write_answer.ensures.failed

pub returns-clause-one_end : goal.returns-clause-one_end
returns-clause-one_end g c =
    clean_one_end (g.R.Source.coming c.args.reader.now) _ _ c.in_ok-pattern.pattern c.args.asked c.in_ok-answer.answer.text.items c.in_ok-answer.answer.ended
    c.write_answer.result
    c.in_ok-pattern.ensures.ok c.in_ok-answer.ensures.ok c.write_answer.ensures.ok
