use Rattle.std.proofs.Common.{◌≡◌, ◌≤◌, ◌+◌, ℕ, length}
use Rattle.std.specs.Prelude.{slice_index_or}
use Rattle.wire_instances.specs.Tables.{first_of}
use Rattle.wire_instances.proofs.tables.firsts_of.Given as goal

abbrev pub invariant-loop-size : goal.invariant-loop-size
invariant-loop-size l = record {
  first : l.first ≡ first_of l.sizes l.size-index;
  count : length l.firsts.items ≡ l.size-index + 1;
  firsts : (role : ℕ) → role ≤ l.size-index → slice_index_or l.firsts.items role 0 ≡ first_of l.sizes role;
}
