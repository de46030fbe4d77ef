-- What a core keeps, for the history of its steps.
use Rattle.std.specs.Prelude.{ℕ, ◌≤◌, List, Option, length}
use Rattle.wire_runs.specs.Plan.{event_total}
use Rattle.wire_runs.specs.Step.{run}
use Rattle.wire_types.specs.declared.CallAt.{CallAt}
use Rattle.wire_scripts.specs.Scripts.{Scripts}
use Rattle.wire_scripts.specs.Planned.{plan_of}
use Rattle.wire_fence.specs.FenceTable.{FenceTable}
use Rattle.wire_core.specs.declared.rank.Rank.{Rank}
use Rattle.wire_core.specs.declared.waits.Awaited.{Awaited}
use Rattle.wire_core.specs.declared.looks.Look.{Look}
use Rattle.wire_core.specs.Ranks.{IsCourse, IsShared}
use Rattle.wire_core.specs.Waiting.{AreNotesTrue}
use Rattle.wire_core.specs.Looks.{AreLooks}
use Rattle.wire_core.specs.declared.keeping.Keeping.{Keeping}
use Rattle.wire_core.specs.Keeping.{IsKeeping}

-- what is kept of a plan that has fences: the ranks, who is missing at its fences, what stands under names, what
-- processes wait for, what was seen of arrivals that bring data, and what gets have brought. There is room for the
-- whole history
pub record IsCore (scripts : Scripts) (table : FenceTable) (history : List ℕ) (capacity : ℕ) (ranks : List Rank) (missing : List ℕ)
    (names : List (Option CallAt)) (waits : List Awaited) (looks : List Look) (keeping : Keeping) : Type 0 where
  pub course : IsCourse scripts history ranks
  pub room : event_total (plan_of scripts) ≤ capacity
  pub shared : IsShared scripts (run (plan_of scripts) history) table missing names
  pub noted : AreNotesTrue scripts table (run (plan_of scripts) history) waits
  pub looked : AreLooks (plan_of scripts) looks
  pub keeping_is : IsKeeping (plan_of scripts) (run (plan_of scripts) history) (length history) keeping
