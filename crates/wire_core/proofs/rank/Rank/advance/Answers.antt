use Rattle.std.proofs.Common.{[], ap}
use Rattle.wire_plan.specs.Kinds.{kind_of}
use Rattle.wire_core.specs.Puts.{is_put}
use Rattle.wire_core.proofs.rank.Rank.advance.Goals as goal

pub put-requires : goal.put-requires
put-requires c = c.requires.room [] (ap (λ kind. is_put (kind_of [] kind)) c.in-Put.is)
