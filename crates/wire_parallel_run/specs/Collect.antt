-- What a run by workers gives, whichever interleaving they took.
use Rattle.std.specs.Prelude.{◌≡◌, ℕ, ◌≤◌, List}
use Rattle.wire_types.specs.Outcome.{Ends}
use Rattle.wire_scripts.specs.Scripts.{Scripts}
use Rattle.wire_scripts.specs.Planned.{plan_of}
use Rattle.wire_runs.specs.State.{start}
use Rattle.wire_runs.specs.Step.{IsInterleaving, IsEnd, run}
use Rattle.wire_core.specs.EndsAfter.{ends_after}

-- so many workers a run may have
abbrev pub MayWork : ℕ → Type 0
MayWork workers = (1 ≤ workers) × (workers ≤ 64)

-- the history is an interleaving of the plan that can't go on, and the ends are exactly those of this history
pub record IsCompleteRun (scripts : Scripts) (history : List ℕ) (ends : Ends) : Type 0 where
  pub legal : IsInterleaving (plan_of scripts) start history
  pub ended : IsEnd (plan_of scripts) (run (plan_of scripts) history)
  pub told : ends ≡ ends_after scripts history
