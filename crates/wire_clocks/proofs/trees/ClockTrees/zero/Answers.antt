use Rattle.std.proofs.Common.{subst}
use Rattle.wire_clocks.specs.ClockTrees.{HasZeros, Holds}
use Rattle.wire_clocks.proofs.Standing.{zeros_stand, first_held}
use Rattle.wire_clocks.proofs.trees.ClockTrees.zero.Goals as goal

pub returns-clause-root : goal.returns-clause-root
returns-clause-root c = (subst HasZeros c.self.view_is (zeros_stand c.self.inside.rows.items c.self.inside.notes.items c.self.inside.levels c.self.invariant)).root

pub returns-clause-says : goal.returns-clause-says
returns-clause-says c = (subst HasZeros c.self.view_is (zeros_stand c.self.inside.rows.items c.self.inside.notes.items c.self.inside.levels c.self.invariant)).zeros

pub returns-clause-first : goal.returns-clause-first
returns-clause-first c = subst (λ clocks. Holds clocks 0) c.self.view_is (first_held c.self.inside.rows.items c.self.inside.notes.items c.self.inside.levels)
