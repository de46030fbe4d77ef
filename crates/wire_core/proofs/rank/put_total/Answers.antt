use Rattle.std.proofs.Common.{rules}
use Rattle.wire_plan.specs.Kinds.{kind_of}
use Rattle.wire_core.specs.Puts.{is_put}
use Rattle.wire_core.proofs.Steps.{count_map}
use Rattle.wire_core.proofs.rank.put_total.Goals as goal

pub returns : goal.returns
returns c sets = rw (count_map is_put (kind_of sets) c.args.kinds.now) (search rules)
