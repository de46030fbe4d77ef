use Rattle.std.proofs.Common.{map}
use Rattle.wire_instances.specs.Views.{turn_by}
use Rattle.wire_cutoff.proofs.Callers.{no_role}
use Rattle.wire_cutoff.proofs.choices.add_caller.Goals as goal

pub returns-in-None : goal.returns-in-None
returns-in-None c =
    no_role c.args.pattern.now c.roles.result.now c.args.role c.args.roles.now c.args.caller (map turn_by c.args.turns.now.items) c.roles.ensures.roles c.in-None.ensures.lookup.3
