use Rattle.std.proofs.Common.{◌-◌}
use Rattle.wire_portable.proofs.sure.is_left.Given as goal

abbrev pub decreases-deliveries : goal.decreases-deliveries
decreases-deliveries l = l.count - l.from
