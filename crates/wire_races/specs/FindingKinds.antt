-- The kinds of findings, each found by itself: for the contracts of private functions.
use Rattle.std.specs.Prelude.{◌≡◌, ◌⊎◌, ◌↔◌, ℕ, List}
use Rattle.wire_runs.specs.Plan.{Plan, Event}
use Rattle.wire_runs.specs.Findings.{Finding, Rewrite, KeyRace, NameRace, IsFound}
use Rattle.wire_findings.specs.declared.finding.Finding.{Finding as Told}
use Rattle.wire_findings.specs.Collected.{TellsFinding}

abbrev pub IsOfRewrite : Finding → Type 0
IsOfRewrite f = (x : Event) × (y : Event) × (f ≡ Rewrite x y)

abbrev pub IsOfKey : Finding → Type 0
IsOfKey f = (x : Event) × (y : Event) × (owner : ℕ) × (key : ℕ) × (f ≡ KeyRace x y owner key)

abbrev pub IsOfName : Finding → Type 0
IsOfName f = (x : Event) × (y : Event) × (name : ℕ) × (f ≡ NameRace x y name)

-- the same findings, and all of the plan that are of this kind
abbrev pub AllAdded : Plan → (Finding → Type 0) → List Told → List Told → Type 0
AllAdded plan kind old new = (f : Finding) → TellsFinding plan new f ↔ (TellsFinding plan old f ⊎ (kind f × IsFound plan f))

-- the rewrites and the races on names of the plan, and nothing else
abbrev pub ArePlaceless : Plan → List Told → Type 0
ArePlaceless plan found = (f : Finding) → TellsFinding plan found f ↔ ((IsOfRewrite f ⊎ IsOfName f) × IsFound plan f)
