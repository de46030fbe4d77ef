-- Puts among events.
use Rattle.std.specs.Prelude.{Bool, true, false}
use Rattle.wire_runs.specs.Plan.{Kind, Put}

abbrev pub is_put : Kind → Bool
is_put (Put key scope) = true
is_put _ = false
