use Rattle.std.proofs.Common.{◌≡◌, map, take}
use Rattle.wire_scripts.specs.Scripts.{numbers_of}
use Rattle.wire_fence.proofs.table.copy_sets.Given as goal

abbrev pub invariant-loop-set : goal.invariant-loop-set
invariant-loop-set l = map (λ v. numbers_of v.items) l.copy.items ≡ take l.set l.sets
