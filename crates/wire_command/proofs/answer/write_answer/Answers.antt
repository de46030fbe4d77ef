use Rattle.std.proofs.Common.{refl, subst}
use Rattle.std.specs.Io.KnownBytes.{Appends}
use Rattle.wire_types.specs.Front.{WritesFront}
use Rattle.wire_command.proofs.Handed.{handed_on}
use Rattle.wire_command.proofs.answer.write_answer.Goals as goal

pub returns-clause-ok : goal.returns-clause-ok
returns-clause-ok g c =
    let wrote = subst (λ t. Appends (g.W.Sink.written c.args.writer.now) (g.W.Sink.written c.write_text.new.sink) t) c.as_slice.ensures.value c.in_ok-write_text.ensures.ok in
    (refl, wrote)

pub returns-in_err-write_text-clause-front : goal.returns-in_err-write_text-clause-front
returns-in_err-write_text-clause-front g c =
    let e = c.in_err-write_text.field-0.0 in
    let front = subst (λ t. WritesFront (g.W.Sink.written c.args.writer.now) (g.W.Sink.written c.write_text.new.sink) t e) c.as_slice.ensures.value c.in_err-write_text.ensures.front in
    handed_on c.from_residual.result e _ c.from_residual.ensures.1 front
