use Rattle.wire_commands.proofs.Checked.{refuses_nothing, no_read_told}
use Rattle.wire_commands.proofs.check.OnItsNodesStreamedCommand.write.Goals as goal

pub returns-clause-err : goal.returns-clause-err
returns-clause-err g c = refuses_nothing _ _ _ _ _ c.check_scripts.result c.check_scripts.ensures.err

pub returns-clause-no_read : goal.returns-clause-no_read
returns-clause-no_read g c = no_read_told _ _ _ _ _ c.check_scripts.result c.check_scripts.ensures.err
