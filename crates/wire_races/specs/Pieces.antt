-- What the pieces of the search tell, whatever pieces the threads take: for the contracts of private functions.
use Rattle.std.specs.Prelude.{◌≡◌, ◌↔◌, ℕ, List, length, slice_get, Some}
use Rattle.wire_runs.specs.Plan.{Plan}
use Rattle.wire_runs.specs.Findings.{Finding}
use Rattle.wire_findings.specs.declared.finding.Finding.{Finding as Told}
use Rattle.wire_findings.specs.Collected.{TellsFinding, AreFound}

-- a piece tells exactly these findings, and they are of the plan
pub record IsPiece (plan : Plan) (those : Finding → Type 0) (piece : List Told) : Type 0 where
  pub found : AreFound plan piece
  pub told : (f : Finding) → TellsFinding plan piece f ↔ those f

-- there are n pieces, the one of number k of the findings of k
pub record ArePieces (plan : Plan) (n : ℕ) (those : ℕ → Finding → Type 0) (pieces : List (List Told)) : Type 0 where
  pub count : length pieces ≡ n
  pub each : (k : ℕ) (piece : List Told) → slice_get pieces k ≡ Some piece → IsPiece plan (those k) piece

-- some piece tells the finding
abbrev pub IsInSome : Plan → List (List Told) → Finding → Type 0
IsInSome plan pieces f = (k : ℕ) × (piece : List Told) × (slice_get pieces k ≡ Some piece) × TellsFinding plan piece f

-- each piece tells findings of the plan alone
abbrev pub AreAllFound : Plan → List (List Told) → Type 0
AreAllFound plan pieces = (k : ℕ) (piece : List Told) → slice_get pieces k ≡ Some piece → AreFound plan piece
