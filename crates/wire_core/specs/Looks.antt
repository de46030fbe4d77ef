-- How far a process's events were looked through for those that may bring its data to a node: for the contracts of
-- private functions.
use Rattle.std.specs.Prelude.{◌≡◌, ℕ, ◌-◌, ◌<◌, ◌≤◌, List, false, Option, Some, None, slice_get}
use Rattle.wire_runs.specs.Plan.{Plan}
use Rattle.wire_runs.specs.Puts.{stored}
use Rattle.wire_core.specs.Met.{brings_at}
use Rattle.wire_core.specs.declared.looks.Look.{Look}

-- whatever has come, none of p's events from the first of these numbers to below the second has brought its data to the
-- node
abbrev pub BringNothing : Plan → ℕ → ℕ → ℕ → ℕ → Type 0
BringNothing plan p node from to = (n : ℕ) → from ≤ n → n < to → (cut : ℕ → ℕ) → brings_at plan cut p node n ≡ false

-- what a look has found is so
pub record IsLook (plan : Plan) (look : Look) : Type 0 where
  pub last_seen : look.last ≤ look.seen
  pub before_last : look.before ≤ look.last - 1
  pub after : BringNothing plan look.owner.number look.node look.last look.seen
  pub between : BringNothing plan look.owner.number look.node look.before (look.last - 1)

abbrev pub AreLooks : Plan → List Look → Type 0
AreLooks plan looks = (i : ℕ) (look : Look) → slice_get looks i ≡ Some look → IsLook plan look

-- what p had stored under the key at an event, or else this
abbrev pub stored_or : Plan → ℕ → ℕ → Option ℕ → Option ℕ → Option ℕ
stored_or plan p key None before = before
stored_or plan p key (Some n) before = stored plan p key n
