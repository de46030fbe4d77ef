use Rattle.std.proofs.Common.{◌≡◌, ◌<◌, ◌==◌, ℕ, length, take, map}
use Rattle.std.specs.Prelude.{slice_index_or, count_by}
use Rattle.wire_pattern.specs.Views.{role_by}
use Rattle.wire_instances.specs.Tables.{jobs_by, rank_in}
use Rattle.wire_instances.proofs.tables.ranks_of.Given as goal

abbrev pub invariant-loop-number : goal.invariant-loop-number
invariant-loop-number l = record {
  count : length l.ranks.items ≡ l.number-index;
  width : length l.counts.items ≡ l.jobs;
  counts : (j : ℕ) → j < l.jobs → slice_index_or l.counts.items j 0 ≡ count_by (λ job. job == j) (take l.number-index (jobs_by (map role_by l.roles) l.numbers));
  ranks : (v : ℕ) → v < l.number-index → slice_index_or l.ranks.items v 0 ≡ rank_in (jobs_by (map role_by l.roles) l.numbers) v;
}
