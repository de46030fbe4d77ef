use Rattle.std.proofs.Common.{◌≡◌, ◌<◌, ◌≤◌, ℕ, slice_index, max, length}
use Rattle.wire_clocks.proofs.rows.greater_numbers.Given as goal

abbrev pub invariant-loop-i : goal.invariant-loop-i
invariant-loop-i l = record {
  width : length l.greater ≡ 16;
  below : (k : ℕ) → k < l.i → slice_index l.greater k ≡ max (slice_index l.lefts k) (slice_index l.rights k);
  above : (k : ℕ) → l.i ≤ k → slice_index l.greater k ≡ slice_index l.lefts k;
}
