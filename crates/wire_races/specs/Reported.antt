-- The calls of a race that is told, and lists that have a race of two calls.
use Rattle.std.specs.Prelude.{◌≡◌, ◌⊎◌, ℕ, List, Option, Some, None, slice_get}
use Rattle.wire_types.specs.declared.CallAt.{CallAt}
use Rattle.wire_findings.specs.declared.finding.Finding.{Finding}
use Rattle.wire_findings.specs.declared.finding.Finding.TheVariants.{Rewrite, KeyRace, NameRace}

-- the calls of a race, the lower first; nothing of a rewrite
abbrev pub race_calls : Finding → Option (CallAt × CallAt)
race_calls (Rewrite first later) = None
race_calls (KeyRace lower higher owner key) = Some (lower, higher)
race_calls (NameRace lower higher name) = Some (lower, higher)

-- it is a race of these calls, in either order
abbrev pub IsOfCalls : Finding → CallAt → CallAt → Type 0
IsOfCalls finding x y = (race_calls finding ≡ Some (x, y)) ⊎ (race_calls finding ≡ Some (y, x))

-- a race of these calls is among the findings
pub record IsReported (found : List Finding) (x y : CallAt) : Type 0 where
  pub at : ℕ
  pub finding : Finding
  pub there : slice_get found at ≡ Some finding
  pub races : IsOfCalls finding x y
