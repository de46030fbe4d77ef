-- How a command ends.
use Rattle.std.specs.Prelude.{◌==◌, ℕ, if◌then◌else◌, List, [], ◌∷◌, length}
use Rattle.wire_findings.specs.declared.finding.Finding.{Finding}
use Rattle.wire_command.specs.declared.ended.Ended.{Ended}
use Rattle.wire_command.specs.declared.ended.Ended.TheVariants.{Clean, Found}

-- how a command ends that finds so many
abbrev pub ended_of : ℕ → Ended
ended_of count = if count == 0 then Clean else Found count

-- how a check or a replay ends that has these findings
abbrev pub ended_with : List Finding → Ended
ended_with [] = Clean
ended_with (finding ∷ others) = Found (length (finding ∷ others))

-- the exit status of what ended so
abbrev pub status_of : Ended → ℕ
status_of Clean = 0
status_of (Found count) = 1
