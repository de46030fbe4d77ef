-- Two runs of one program, each an interleaving of the plan of the calls that are made in it: what one tells of the
-- other.
use Rattle.std.specs.Prelude.{◌≡◌, ℕ, ◌<◌, ◌≤◌, List, take}
use Rattle.wire_runs.specs.Plan.{Plan, process_count, node_of, kind_at}
use Rattle.wire_runs.specs.State.{State, start}
use Rattle.wire_runs.specs.Step.{IsInterleaving, run, IsEnd, IsReachable}
use Rattle.wire_runs.specs.Laws.{HasOneEnd}

-- two plans have as many processes, each on the same node, and both keep what gets bring or none does
pub record IsSameHead (a b : Plan) : Type 0 where
  pub count : process_count a ≡ process_count b
  pub nodes : (p : ℕ) → node_of a p ≡ node_of b p
  pub keep : a.keep ≡ b.keep

-- s is part of the run w: a run of the plan can come to it, and the replies in it are replies of w
pub record IsPartOfRun (plan : Plan) (w : List ℕ) (s : State) : Type 0 where
  pub reached : IsReachable plan s
  pub within : (p : ℕ) → s.done p ≤ (run plan w).done p
  pub replies : (p : ℕ) → s.replies p ≡ take (s.done p) ((run plan w).replies p)

-- s is part of both runs, and all calls that are done in it are the same
pub record IsCommon (a b : Plan) (v w : List ℕ) (s : State) : Type 0 where
  pub in_first : IsPartOfRun a v s
  pub in_second : IsPartOfRun b w s
  pub same : (p i : ℕ) → i < s.done p → kind_at a p i ≡ kind_at b p i

-- both are runs of one program: where both have done the same, each process goes on with the same call in both, or
-- makes no more in both. What it calls next depends only on what it was told
abbrev pub AreOfOneProgram : Plan → Plan → List ℕ → List ℕ → Type 0
AreOfOneProgram a b v w = (s : State) → IsCommon a b v w s → (p : ℕ) → kind_at a p (s.done p) ≡ kind_at b p (s.done p)

-- the run v of one plan is a run of the other plan: each process makes the same calls, with the same replies, and then
-- stands at the same call
pub record IsRunOfBoth (a b : Plan) (v : List ℕ) : Type 0 where
  pub is_run : IsInterleaving b start v
  pub same_state : run a v ≡ run b v
  pub same_calls : (p i : ℕ) → i ≤ (run a v).done p → kind_at a p i ≡ kind_at b p i

-- one complete run of a program tells of each run of it: if its plan has one end, as one in which nothing is found, the other
-- is a run of that plan; and if that is complete too, both end in one state
pub record IsToldBy (a b : Plan) (v w : List ℕ) : Type 0 where
  pub both : IsRunOfBoth a b v
  pub one_end : IsEnd a (run a v) → run a v ≡ run b w

abbrev pub OneRunTells : Type 0
OneRunTells = (a b : Plan) (v w : List ℕ) → HasOneEnd b → IsInterleaving b start w → IsEnd b (run b w)
    → IsInterleaving a start v → IsSameHead a b → AreOfOneProgram a b v w → IsToldBy a b v w
