use Rattle.std.proofs.Common.{◌-◌, length}
use Rattle.wire_portable.proofs.sure.is_got_by.Given as goal

abbrev pub decreases-gets : goal.decreases-gets
decreases-gets l = length l.gets - l.place
