use Rattle.wire_commands.proofs.CheckedAnywhere.{clean_same}
use Rattle.wire_commands.proofs.check_same.check_replies.Goals as goal

pub returns-clause-same : goal.returns-clause-same
returns-clause-same g c = clean_same _ c.args.manner.form c.args.manner.name.now _ _ _ c.run_command.result c.run_command.ensures.ok
