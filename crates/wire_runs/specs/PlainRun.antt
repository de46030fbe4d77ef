-- The plain run: at each step the lowest process that is enabled takes it.
use Rattle.std.specs.Prelude.{ℕ, zero, suc, List, [], ◌∷◌, Option, Some, None, if◌then◌else◌}
use Rattle.wire_runs.specs.Plan.{Plan, process_count, event_total}
use Rattle.wire_runs.specs.State.{State, start}
use Rattle.wire_runs.specs.Step.{is_enabled, step}

abbrev pub or_else : Option ℕ → Option ℕ → Option ℕ
or_else None o = o
or_else (Some p) o = Some p

-- the lowest of the first n processes that is enabled
abbrev pub lowest : Plan → State → ℕ → Option ℕ
lowest plan s zero = None
lowest plan s (suc n) = or_else (lowest plan s n) (if is_enabled plan s n then Some n else None)

abbrev pub go_on : Option ℕ → (ℕ → List ℕ) → List ℕ
go_on None next = []
go_on (Some p) next = p ∷ next p

-- at most this many steps of it
abbrev pub plain_from : Plan → ℕ → State → List ℕ
plain_from plan zero s = []
plain_from plan (suc fuel) s = go_on (lowest plan s (process_count plan)) (λ p. plain_from plan fuel (step plan s p))

abbrev pub plain_run : Plan → List ℕ
plain_run plan = plain_from plan (event_total plan) start
