use Rattle.std.proofs.Common.{map, arith}
use Rattle.wire_pattern.specs.Views.{role_by}
use Rattle.wire_pattern_later.specs.Through.{first_size}
use Rattle.wire_pattern_later.proofs.Loops.{three_least, max_least}
use Rattle.wire_pattern_later.proofs.through.first_size.Goals as goal

pub loop-role-init : goal.loop-role-init
loop-role-init c = (max_least 3 (first_size (map role_by c.args.roles.now)) (three_least (map role_by c.args.roles.now)), omega arith)
