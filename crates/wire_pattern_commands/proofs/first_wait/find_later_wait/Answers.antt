use Rattle.wire_pattern_commands.proofs.FirstWaits.{later_waits}
use Rattle.wire_pattern_commands.proofs.first_wait.find_later_wait.Goals as goal

pub returns-in-First-clause-ok : goal.returns-in-First-clause-ok
returns-in-First-clause-ok c = later_waits c.args.pattern.now c.args.beyond.now c.in-First.later c.later_with.result c.reads_once.ensures c.requires c.in-First.is c.later_with.ensures.ok
