use Rattle.wire_command.proofs.Handed.{handed_on}
use Rattle.wire_commands.proofs.ReplayWritten.{found_out, found_broken}
use Rattle.wire_commands.proofs.replay.replay_found.Goals as goal

pub returns-in_err-write_found-clause-err : goal.returns-in_err-write_found-clause-err
returns-in_err-write_found-clause-err g c =
    let p = c.args.found.now in
    let e = c.in_err-write_found.field-0.0 in
    let broken = found_broken c.args.manner.mode p.plan p.findings c.of_count-ended.result (g.W.Sink.written c.args.writer.now) (g.W.Sink.written c.write_found.new.writer) _ _ e
    (c.settled_exactly.ensures p.plan p.findings c.requires.those) c.requires.those c.requires.some (c.of_count-ended.ensures.found p.findings c.len.ensures) c.in_err-write_found.ensures.err in
    handed_on c.from_residual.result e _ c.from_residual.ensures.1 broken

pub returns-clause-ok : goal.returns-clause-ok
returns-clause-ok g c =
    let p = c.args.found.now in
    found_out c.args.manner.mode p.plan p.findings c.of_count-ended.result (g.W.Sink.written c.args.writer.now) (g.W.Sink.written c.write_found.new.writer)
    (c.settled_exactly.ensures p.plan p.findings c.requires.those) c.requires.those c.requires.some (c.of_count-ended.ensures.found p.findings c.len.ensures) c.in_ok-write_found.ensures.ok
