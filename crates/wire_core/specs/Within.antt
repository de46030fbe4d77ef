-- Runs in which each process takes so many events and no more.
use Rattle.std.specs.Prelude.{◌≡◌, ℕ, ◌<◌, List, true, slice_index_or}
use Rattle.wire_runs.specs.Plan.{Plan}
use Rattle.wire_runs.specs.State.{State}
use Rattle.wire_runs.specs.Step.{is_enabled}
use Rattle.wire_core.specs.Course.{Course, plan_in, state_of}
use Rattle.wire_core.specs.Following.{Follows}

-- how many events a process may take by this list of limits: none where it has no limit there
abbrev pub limit_at : List ℕ → ℕ → ℕ
limit_at limits p = slice_index_or limits p 0

-- the process is enabled, and has taken fewer events than its limit
pub record MayGo (plan : Plan) (limits : List ℕ) (s : State) (p : ℕ) : Type 0 where
  pub enabled : is_enabled plan s p ≡ true
  pub below : s.done p < limit_at limits p

-- steps were taken, each of a process that was enabled when it came. A process that is past its limit took none of
-- them, and now no process may go on within its limit
pub record RunsWithin (limits : List ℕ) (old new : Course) : Type 0 where
  pub steps : List ℕ
  pub follows : Follows old steps new
  pub within : (p : ℕ) → limit_at limits p < (state_of new).done p → (state_of new).done p ≡ (state_of old).done p
  pub ended : (p : ℕ) → MayGo (plan_in new) limits (state_of new) p → ⊥
