use Rattle.std.proofs.Common.{◌-◌, length}
use Rattle.wire_portable.proofs.own_calls.is_kept.Given as goal

abbrev pub decreases-gets : goal.decreases-gets
decreases-gets l = length l.gets - l.place
