use Rattle.std.proofs.Common.{◌≡◌, ◌<◌, ◌≤◌, ℕ, [], length, slice_index}
use Rattle.wire_circles.specs.Circles.{waited_by}
use Rattle.wire_circles.specs.Search.{IsSearch}
use Rattle.wire_circles.proofs.search.find_circle.Given as goal

abbrev pub invariant-loop-start : goal.invariant-loop-start
invariant-loop-start l = record {
  search : IsSearch (waited_by l.waits) (slice_index l.left.items) [];
  before : (p : ℕ) → p < l.start → slice_index l.left.items p ≡ 0;
  past : (p : ℕ) → length l.waits ≤ p → slice_index l.left.items p ≡ 0;
}
