use Rattle.std.proofs.Common.{inr}
use Rattle.wire_command.proofs.Handed.{handed_on}
use Rattle.wire_commands.proofs.ReplayWritten.{replay_broken}
use Rattle.wire_commands.proofs.replay.replay_settled.Goals as goal

pub returns-in_err-write_text-clause-err : goal.returns-in_err-write_text-clause-err
returns-in_err-write_text-clause-err g c =
    let broken = replay_broken c.args.manner.mode c.args.settled.now c.in_ok-replayed.replayed.ended (g.W.Sink.written c.args.writer.now) (g.W.Sink.written c.write_text.new.sink)
    c.in_ok-replayed.text.items c.as_slice.result.now c.in_err-write_text.field-0.0 c.in_ok-replayed.ensures.ok c.as_slice.ensures.value c.in_err-write_text.ensures.front in
    handed_on c.from_residual-in_err-write_text.result c.in_err-write_text.field-0.0 _ c.from_residual-in_err-write_text.ensures.1 (inr (broken, c.in_err-write_text.ensures.failed))
