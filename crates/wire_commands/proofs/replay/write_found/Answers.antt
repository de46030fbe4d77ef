use Rattle.wire_commands.proofs.ReplayWritten.{run_out, run_broken, findings_out, findings_broken}
use Rattle.wire_commands.proofs.replay.write_found.Goals as goal

pub returns-then-manner-clause-ok : goal.returns-then-manner-clause-ok
returns-then-manner-clause-ok g c =
    run_out c.args.manner.mode c.args.found.now.plan c.args.found.now.findings _ _ c.in_ok-text.text.items c.as_slice.result.now c.write_text.result
    c.if-manner.true c.in_ok-text.ensures.ok c.as_slice.ensures.value c.write_text.ensures.ok

pub returns-then-manner-clause-err : goal.returns-then-manner-clause-err
returns-then-manner-clause-err g c =
    run_broken c.args.manner.mode c.args.found.now.plan c.args.found.now.findings (g.W.Sink.written c.args.writer.now) (g.W.Sink.written c.write_text.new.sink)
    c.in_ok-text.text.items c.as_slice.result.now _ _ c.write_text.result
    c.if-manner.true c.in_ok-text.ensures.ok c.as_slice.ensures.value c.write_text.ensures.front c.write_text.ensures.failed

pub returns-clause-ok : goal.returns-clause-ok
returns-clause-ok g c =
    findings_out c.args.manner.mode c.args.found.now.plan c.scripts-scripts.result.now c.args.found.now.findings _ _ c.write_findings.result
    c.if-manner.false c.scripts-scripts.ensures.scripts c.write_findings.ensures.ok

pub returns-clause-err : goal.returns-clause-err
returns-clause-err g c =
    findings_broken c.args.manner.mode c.args.found.now.plan c.scripts-scripts.result.now c.args.found.now.findings (g.W.Sink.written c.args.writer.now)
    (g.W.Sink.written c.write_findings.new.sink) _ _ c.write_findings.result c.if-manner.false c.scripts-scripts.ensures.scripts
    c.write_findings.ensures.err c.write_findings.ensures.memory c.write_findings.ensures.failed
