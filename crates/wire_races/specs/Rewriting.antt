-- The rewrite that an event is: for the contracts of private functions.
use Rattle.std.specs.Prelude.{◌≡◌}
use Rattle.wire_runs.specs.Plan.{Plan, Event}
use Rattle.wire_runs.specs.Findings.{Finding, Rewrite}
use Rattle.wire_runs.specs.Races.{IsRewrite}

-- the finding that y is a rewrite
abbrev pub IsRewriteBy : Plan → Event → Finding → Type 0
IsRewriteBy plan y f = (x : Event) × IsRewrite plan x y × (f ≡ Rewrite x y)
