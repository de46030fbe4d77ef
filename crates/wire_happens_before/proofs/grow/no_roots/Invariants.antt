use Rattle.std.proofs.Common.{◌≡◌, ℕ, [], length}
use Rattle.wire_happens_before.specs.Clocks.{items_at}
use Rattle.wire_happens_before.proofs.grow.no_roots.Given as goal

abbrev pub invariant-loop-number : goal.invariant-loop-number
invariant-loop-number l = record {
  count : length l.roots.items ≡ l.number;
  none : (p : ℕ) → items_at l.roots.items p ≡ [];
}
