use Rattle.std.proofs.Common.{inl, inr, refl, arith}
use Rattle.std.proofs.lemmas.Result.{on_ok_weaker}
use Rattle.wire_command.proofs.Handed.{err_always}
use Rattle.wire_command.proofs.Handed.{handed_on}
use Rattle.wire_commands.proofs.ReplayWritten.{writes_replay, judges_calls, clean_one_end, breaks_off, no_failed_read}
use Rattle.wire_commands.proofs.replay.replay_plan.Goals as goal

pub replay_scripts-requires-clause-workers : goal.replay_scripts-requires-clause-workers
replay_scripts-requires-clause-workers g c _ _ = (omega arith, omega arith)

pub returns-in_err-scripts-clause-err : goal.returns-in_err-scripts-clause-err
returns-in_err-scripts-clause-err g c =
    handed_on c.from_residual.result c.in_err-scripts.field-0.0 _ c.from_residual.ensures.1 (inl (inr ((omega arith, omega arith), c.in_err-scripts.ensures.err), refl))

pub returns-in_err-scripts-clause-workers : goal.returns-in_err-scripts-clause-workers
returns-in_err-scripts-clause-workers g c none = absurd (none (omega arith, omega arith))

pub returns-clause-ok : goal.returns-clause-ok
returns-clause-ok g c = writes_replay c.args.manner.mode _ _ _ c.in_ok-scripts.scripts c.replay_scripts.result c.in_ok-scripts.ensures.ok c.replay_scripts.ensures.ok

pub returns-clause-calls : goal.returns-clause-calls
returns-clause-calls g c = judges_calls _ c.in_ok-scripts.scripts c.replay_scripts.result c.in_ok-scripts.ensures.ok c.replay_scripts.ensures.calls

pub returns-clause-quiet : goal.returns-clause-quiet
returns-clause-quiet g c = on_ok_weaker c.replay_scripts.result (λ quiet. (c.in_ok-scripts.ensures.quiet, quiet)) c.replay_scripts.ensures.quiet

pub returns-clause-one_end : goal.returns-clause-one_end
returns-clause-one_end g c =
    clean_one_end c.args.manner.mode _ (g.W.Sink.written c.args.writer.now) (g.W.Sink.written c.replay_scripts.new.writer) c.in_ok-scripts.scripts c.replay_scripts.result
    c.in_ok-scripts.ensures.ok c.replay_scripts.ensures.ok

pub returns-clause-err : goal.returns-clause-err
returns-clause-err g c =
    breaks_off c.args.manner.workers c.args.manner.mode _ _ _ c.in_ok-scripts.scripts _ _ c.replay_scripts.result (omega arith, omega arith) c.in_ok-scripts.ensures.ok c.replay_scripts.ensures.err

pub returns-clause-read_failed : goal.returns-clause-read_failed
returns-clause-read_failed g c is =
    absurd (no_failed_read c.args.manner.mode c.in_ok-scripts.scripts (g.W.Sink.written c.args.writer.now)
    (g.W.Sink.written c.replay_scripts.new.writer) _ _ c.replay_scripts.result c.replay_scripts.ensures.err is)

pub returns-clause-unfailed : goal.returns-clause-unfailed
returns-clause-unfailed g c = err_always c.replay_scripts.result _ (λ e memory read. c.in_ok-scripts.ensures.quiet)

pub returns-clause-workers : goal.returns-clause-workers
returns-clause-workers g c none = absurd (none (omega arith, omega arith))
