-- What a core keeps, against the state that its history leads to.
use Rattle.std.specs.Prelude.{◌≡◌, ℕ, ◌+◌, ◌-◌, ◌≤◌, List, Option, Some, count_by, length, drop, option_map, slice_get}
use Rattle.std.specs.Prelude.{vec_capacity}
use Rattle.wire_runs.specs.Plan.{Plan, kinds, kind_at, event_count, process_count}
use Rattle.wire_types.specs.declared.CallAt.{CallAt}
use Rattle.wire_scripts.specs.Scripts.{Scripts, IsSound}
use Rattle.wire_scripts.specs.Planned.{plan_of}
use Rattle.wire_store.specs.Kept.{kept_after}
use Rattle.wire_fence.specs.FenceTable.{FenceTable, AreFencesOf}
use Rattle.wire_fence.specs.Arrivals.{TellsMissing}
use Rattle.wire_names.specs.Names.{published}
use Rattle.wire_runs.specs.State.{State, start}
use Rattle.wire_runs.specs.Step.{IsInterleaving, run}
use Rattle.wire_runs.specs.Ends.{call_of, replies_of}
use Rattle.wire_core.specs.Puts.{is_put}
use Rattle.wire_core.specs.declared.rank.Rank.{Rank}

-- how many puts p has from its event number n on
abbrev pub puts_left : Plan → ℕ → ℕ → ℕ
puts_left plan p n = count_by is_put (drop n (kinds plan p))

-- the call of each of p's events
abbrev pub calls_at : Plan → ℕ → ℕ → CallAt
calls_at plan p n = call_of plan (record { proc = p; at = n })

-- the rank tells what p has done in this state
pub record IsRankOf (plan : Plan) (s : State) (p : ℕ) (rank : Rank) : Type 0 where
  pub done : rank.done ≡ s.done p
  pub puts : rank.store.puts ≡ kept_after (kind_at plan p) (calls_at plan p) (s.done p)
  pub room : rank.store.room ≡ puts_left plan p (s.done p)
  pub replies : rank.replies.items ≡ replies_of plan (s.replies p)
  pub space : length rank.replies.items + (event_count plan p - s.done p) ≤ vec_capacity rank.replies

-- a rank for each process
pub record AreRanksOf (plan : Plan) (s : State) (ranks : List Rank) : Type 0 where
  pub count : length ranks ≡ process_count plan
  pub each : (p : ℕ) (rank : Rank) → slice_get ranks p ≡ Some rank → IsRankOf plan s p rank

-- the table has the calls of the publishes that stand under the names
pub record AreStateNames (scripts : Scripts) (s : State) (names : List (Option CallAt)) : Type 0 where
  pub count : length names ≡ length scripts.names
  pub each : (name : ℕ) → published names name ≡ option_map (call_of (plan_of scripts)) (s.names name)

-- what is kept of all processes together: who is missing at fences, and what stands under names
pub record IsShared (scripts : Scripts) (s : State) (table : FenceTable) (missing : List ℕ) (names : List (Option CallAt)) : Type 0 where
  pub sound : IsSound scripts
  pub fences : AreFencesOf scripts table
  pub arrived : TellsMissing scripts s.done table missing
  pub named : AreStateNames scripts s names

-- the history is an interleaving, and the ranks are those of the state that it leads to
pub record IsCourse (scripts : Scripts) (history : List ℕ) (ranks : List Rank) : Type 0 where
  pub legal : IsInterleaving (plan_of scripts) start history
  pub told : AreRanksOf (plan_of scripts) (run (plan_of scripts) history) ranks
