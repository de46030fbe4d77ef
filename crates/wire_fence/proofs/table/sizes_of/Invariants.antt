use Rattle.std.proofs.Common.{◌≡◌, map, take, length}
use Rattle.wire_scripts.specs.Scripts.{numbers_of, set_at}
use Rattle.wire_fence.proofs.table.sizes_of.Given as goal

abbrev pub invariant-loop-row : goal.invariant-loop-row
invariant-loop-row l = l.sizes.items ≡ map (λ row. length (set_at (map (λ v. numbers_of v.items) l.sets) row.set)) (take l.row-index l.rows)
