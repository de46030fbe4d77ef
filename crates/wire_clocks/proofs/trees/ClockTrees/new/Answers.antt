use Rattle.std.proofs.Common.{rules}
use Rattle.wire_clocks.proofs.Standing.{zeros_stand}
use Rattle.wire_clocks.proofs.trees.ClockTrees.new.Goals as goal

pub returns-clause-zeros : goal.returns-clause-zeros
returns-clause-zeros c = zeros_stand c.push.new.self.items c.new.result.items c.levels_for.result (search rules)
