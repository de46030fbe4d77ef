use Rattle.std.proofs.Common.{◌-◌, length}
use Rattle.wire_portable.proofs.own_calls.is_got.Given as goal

abbrev pub decreases-gets : goal.decreases-gets
decreases-gets l = length l.gets - l.place
