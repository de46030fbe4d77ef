use Rattle.std.proofs.lemmas.Result.{IfOk-weaker}
use Rattle.wire_command_line.proofs.Lines.{with_command}
use Rattle.wire_command_line.proofs.commands.with_command.Goals as goal

pub returns-in-Ok : goal.returns-in-Ok
returns-in-Ok c = IfOk-weaker c.subcommand.result _ _ (λ new adds app line. with_command _ _ new app _ adds line c.in-Ok.ensures) c.subcommand.ensures
