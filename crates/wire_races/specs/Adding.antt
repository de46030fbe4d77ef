-- How the list of findings grows: for the contracts of private functions.
use Rattle.std.specs.Prelude.{◌≡◌, ◌⊎◌, ◌<◌, ◌≤◌, ℕ, List}
use Rattle.wire_runs.specs.Plan.{Plan, Event}
use Rattle.wire_runs.specs.Findings.{Finding, IsFound}
use Rattle.wire_findings.specs.declared.finding.Finding.{Finding as Told}
use Rattle.wire_findings.specs.Collected.{TellsFinding, AreFound}

-- those are added, and nothing else
pub record AddsFindings (plan : Plan) (old new : List Told) (those : Finding → Type 0) : Type 0 where
  pub found : AreFound plan new
  pub kept : (f : Finding) → TellsFinding plan old f → TellsFinding plan new f
  pub all : (f : Finding) → those f → TellsFinding plan new f
  pub only : (f : Finding) → TellsFinding plan new f → TellsFinding plan old f ⊎ those f

-- all findings of a kind
abbrev pub OfKind : Plan → (Finding → Type 0) → Finding → Type 0
OfKind plan kind f = kind f × IsFound plan f

-- those that one of p's first n events tells
abbrev pub ToldIn : (Event → Finding → Type 0) → ℕ → ℕ → Finding → Type 0
ToldIn tells p n f = (y : Event) × tells y f × (y.proc ≡ p) × (y.at < n)

-- those that an event of one of the processes from one number to below another tells
abbrev pub ToldBetween : (Event → Finding → Type 0) → ℕ → ℕ → Finding → Type 0
ToldBetween tells from end f = (y : Event) × tells y f × (from ≤ y.proc) × (y.proc < end)

-- those that an event of one of the first n processes tells
abbrev pub ToldBelow : (Event → Finding → Type 0) → ℕ → Finding → Type 0
ToldBelow tells n f = (y : Event) × tells y f × (y.proc < n)
