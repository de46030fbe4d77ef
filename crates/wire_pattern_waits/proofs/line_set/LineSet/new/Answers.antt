use Rattle.wire_pattern_waits.proofs.Flags.{none_there}
use Rattle.wire_pattern_waits.proofs.line_set.LineSet.new.Goals as goal

pub returns : goal.returns
returns c = λ role line. none_there c.new.result.items role line c.new.ensures.items
