use Rattle.std.proofs.Common.{◌≡◌, ℕ, ◌<◌, false, length, drop, slice_index_or}
use Rattle.std.specs.Prelude.{◌||◌}
use Rattle.wire_runs.specs.Fences.{is_member}
use Rattle.wire_scripts.specs.Scripts.{numbers_of}
use Rattle.wire_scripts.proofs.set_word.presence.Given as goal

abbrev pub invariant-loop-member : goal.invariant-loop-member
invariant-loop-member l = record {
  len : length l.present.items ≡ l.count;
  present : (p : ℕ) → p < l.count → (slice_index_or l.present.items p false || is_member (numbers_of (drop l.member-index l.set)) p) ≡ is_member (numbers_of l.set) p;
}
