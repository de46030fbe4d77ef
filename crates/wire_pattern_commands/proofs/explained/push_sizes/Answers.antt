use Rattle.std.proofs.Common.{map, drop}
use Rattle.wire_pattern.specs.Views.{role_by}
use Rattle.wire_pattern_commands.proofs.FirstWaits.{sizes_end}
use Rattle.wire_pattern_commands.proofs.explained.push_sizes.Goals as goal

pub returns-in_default : goal.returns-in_default
returns-in_default c =
    sizes_end c.loop-number.number (map role_by (drop c.loop-number.number c.args.roles.now)) c.args.sizes.now c.loop-number.out.items _
    c.in_default.ensures.lookup.3 c.loop-number.invariant
