use Rattle.std.proofs.Common.{◌-◌, ◌/◌, ◌%◌, ◌==◌, refl, arith}
use Rattle.std.proofs.Math.Nat.{one-le-pow}
use Rattle.wire_clocks.specs.Rows.{tree_says}
use Rattle.wire_clocks.proofs.Growing.{zeros}
use Rattle.wire_clocks.proofs.Raising.{zeros_say}
use Rattle.wire_clocks.proofs.notes.begin_rising.Goals as goal

pub returns-clause-rising : goal.returns-clause-rising
returns-clause-rising c = λ rows height tree. record { tree = tree; block = one-le-pow (height - 1) 16 (omega arith); width = refl }

pub returns-clause-says : goal.returns-clause-says
returns-clause-says c = λ rows height q. zeros_say (q / 16 == 0) (tree_says rows height c.args.tree q) _ (zeros 16 (q % 16))
