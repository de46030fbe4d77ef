use Rattle.std.proofs.Common.{◌∙◌, ◌/◌, ◌%◌, ◌==◌, refl}
use Rattle.wire_clocks.proofs.Growing.{zeros}
use Rattle.wire_clocks.proofs.Raising.{zeros_say}
use Rattle.wire_clocks.specs.ClockTrees.{says}
use Rattle.wire_clocks.proofs.rising.Rising.new.Goals as goal

pub returns-clause-rising : goal.returns-clause-rising
returns-clause-rising c = record { base = c.zero.ensures.root; block = c.zero.ensures.first; width = refl }

pub returns-clause-zeros : goal.returns-clause-zeros
returns-clause-zeros c = λ q. zeros_say (q / 16 == 0) (says c.args.trees.now c.zero.result q) _ (zeros 16 (q % 16)) ∙ c.zero.ensures.says q
