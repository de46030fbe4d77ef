-- What the list of the findings of all placements tells.
use Rattle.std.specs.Prelude.{List, map, Option, Some, None}
use Rattle.wire_runs.specs.Plan.{Plan}
use Rattle.wire_runs.specs.Findings.{Finding}
use Rattle.wire_runs.specs.FindingsAnywhere.{PlacementFinding, OnAll, OnPair, IsFindingsAnywhere}
use Rattle.wire_scripts.specs.Scripts.{Scripts}
use Rattle.wire_scripts.specs.Planned.{plan_of}
use Rattle.wire_findings.specs.Findings.{shown, lower_name}
use Rattle.wire_anywhere.specs.declared.placed.Pair.{Pair}
use Rattle.wire_anywhere.specs.declared.placed.PlacedFinding.{PlacedFinding}

-- the finding, of every placing or of that of the pair
abbrev pub placed_on : Finding → Option Pair → PlacementFinding
placed_on f None = OnAll f
placed_on f (Some pair) = OnPair f pair.lower.number pair.higher.number

-- each call by its first event
abbrev pub placed_shown : Plan → PlacedFinding → PlacementFinding
placed_shown plan told = placed_on (shown plan told.finding) told.on

abbrev pub all_placed : Plan → List PlacedFinding → List PlacementFinding
all_placed plan found = map (placed_shown plan) found

-- the list of all findings of all placings of the scripts' plan; two races of one pair of calls by the bytes of their names
abbrev pub AreFoundAnywhere : Scripts → List PlacedFinding → Type 0
AreFoundAnywhere s found = IsFindingsAnywhere (plan_of s) (lower_name s.names) (all_placed (plan_of s) found)
