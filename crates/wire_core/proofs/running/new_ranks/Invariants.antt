use Rattle.std.proofs.Common.{◌≡◌, ℕ, Some, vec_len}
use Rattle.std.specs.Prelude.{slice_get, vec_capacity}
use Rattle.wire_scripts.specs.Planned.{plan_of}
use Rattle.wire_runs.specs.State.{start}
use Rattle.wire_core.specs.Ranks.{IsRankOf}
use Rattle.wire_core.specs.declared.rank.Rank.{Rank}
use Rattle.wire_core.proofs.running.new_ranks.Given as goal

abbrev pub invariant-loop-number : goal.invariant-loop-number
invariant-loop-number l = record {
  count : vec_len l.ranks ≡ l.number;
  space : vec_capacity l.ranks ≡ l.number-end;
  each : (p : ℕ) (rank : Rank) → slice_get l.ranks.items p ≡ Some rank → IsRankOf (plan_of l.plan) start p rank;
}
