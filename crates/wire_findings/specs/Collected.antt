-- What is found so far: for the contracts of `Found`, and of private functions.
use Rattle.std.specs.Prelude.{◌≡◌, ◌⊎◌, ◌↔◌, List}
use Rattle.wire_runs.specs.Plan.{Plan}
use Rattle.wire_runs.specs.Findings.{Finding, IsFound, Has}
use Rattle.wire_findings.specs.declared.finding.Finding.{Finding as Told}
use Rattle.wire_findings.specs.Findings.{all_shown}

-- one of those that are met is this finding
abbrev pub TellsFinding : Plan → List Told → Finding → Type 0
TellsFinding plan found f = Has (all_shown plan found) f

-- each is a finding of the plan
abbrev pub AreFound : Plan → List Told → Type 0
AreFound plan found = (f : Finding) → TellsFinding plan found f → IsFound plan f

-- the same findings, and this one
abbrev pub IsFindingAdded : Plan → List Told → List Told → Finding → Type 0
IsFindingAdded plan old new added = (f : Finding) → TellsFinding plan new f ↔ (TellsFinding plan old f ⊎ (f ≡ added))
