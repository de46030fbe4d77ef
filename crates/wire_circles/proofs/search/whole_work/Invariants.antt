use Rattle.std.proofs.Common.{◌≡◌, ◌+◌, map, take, length}
use Rattle.wire_circles.proofs.search.whole_work.Given as goal

abbrev pub invariant-loop-list : goal.invariant-loop-list
invariant-loop-list l = l.left.items ≡ map (λ list. length list.items + 2) (take l.list-index l.waits)
