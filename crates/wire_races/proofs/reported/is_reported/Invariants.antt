use Rattle.std.proofs.Common.{◌≡◌, ℕ, ◌<◌, Some}
use Rattle.std.specs.Prelude.{slice_get}
use Rattle.wire_findings.specs.declared.finding.Finding.{Finding}
use Rattle.wire_races.specs.Reported.{IsOfCalls}
use Rattle.wire_races.proofs.reported.is_reported.Given as goal

-- none of the findings so far is a race of these calls
abbrev pub invariant-loop-number : goal.invariant-loop-number
invariant-loop-number l = (k : ℕ) (f : Finding) → k < l.number → slice_get l.list k ≡ Some f → IsOfCalls f l.x l.y → ⊥
