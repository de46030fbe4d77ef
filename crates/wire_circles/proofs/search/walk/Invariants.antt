use Rattle.std.proofs.Common.{slice_index}
use Rattle.std.specs.List.{sum}
use Rattle.wire_circles.specs.Circles.{waited_by}
use Rattle.wire_circles.specs.Search.{IsSearch, StaysBelow}
use Rattle.wire_circles.proofs.search.walk.Given as goal

abbrev pub invariant-steps : goal.invariant-steps
invariant-steps l = record {
  search : IsSearch (waited_by l.waits) (slice_index l.left.items) l.path.items;
  below : StaysBelow l.initial.left.items l.left.items;
}

abbrev pub decreases-steps : goal.decreases-steps
decreases-steps l = sum l.left.items
