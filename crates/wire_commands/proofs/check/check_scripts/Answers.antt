use Rattle.std.proofs.Common.{◌≡◌, subst, IfOk, IfErr}
use Rattle.wire_types.specs.Counting.{one_more}
use Rattle.wire_command.specs.Answer.{rows_in}
use Rattle.wire_command.specs.Command.{WritesText}
use Rattle.wire_commands.specs.Check.{IsVerdict}
use Rattle.wire_commands.proofs.Checked.{Stops}
use Rattle.wire_commands.proofs.check.check_scripts.Goals as goal

pub returns-clause-ok : goal.returns-clause-ok
returns-clause-ok g c =
    subst (λ s. IfOk c.check_built-ended.result (λ ended. WritesText (λ text. IsVerdict c.args.telling.form c.args.telling.places.name.now s (rows_in c.args.telling.places) text ended)
    (g.W.Sink.written c.args.writer.now) (g.W.Sink.written c.check_built-ended.new.writer))) c.in_ok-plan.ensures.ok c.check_built-ended.ensures.ok

pub returns-clause-err : goal.returns-clause-err
returns-clause-err g c =
    subst (λ s. IfErr c.check_built-ended.result (Stops c.args.telling.form c.args.telling.places.name.now (rows_in c.args.telling.places) s (g.W.Sink.written c.args.writer.now)
    (g.W.Sink.written c.check_built-ended.new.writer) (c.check_built-ended.new.writer ≡ c.args.writer.now)
    (g.W.Sink.failures c.check_built-ended.new.writer ≡ one_more (g.W.Sink.failures c.args.writer.now)))) c.in_ok-plan.ensures.ok c.check_built-ended.ensures.err
