-- The races among the findings of a plan.
use Rattle.std.specs.Prelude.{Bool, List, filter, is_some}
use Rattle.wire_findings.specs.declared.finding.Finding.{Finding}
use Rattle.wire_races.specs.Reported.{race_calls}

abbrev pub is_race : Finding → Bool
is_race finding = is_some (race_calls finding)

-- the races among the findings, in their order
abbrev pub races_of : List Finding → List Finding
races_of found = filter is_race found
