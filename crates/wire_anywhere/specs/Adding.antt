-- How the list of what is found grows: for the contracts of private functions.
use Rattle.std.specs.Prelude.{◌≡◌, ◌⊎◌, ◌↔◌, ◌<◌, ℕ, List, Some, length, slice_get}
use Rattle.wire_runs.specs.Plan.{Plan, Event}
use Rattle.wire_runs.specs.Findings.{Finding}
use Rattle.wire_runs.specs.FindingsAnywhere.{PlacementFinding, OnAll, HasPlacementFinding, IsFoundSomewhere}
use Rattle.wire_findings.specs.declared.finding.Finding.{Finding as Told}
use Rattle.wire_findings.specs.Collected.{TellsFinding as TellsUnplaced}
use Rattle.wire_anywhere.specs.declared.placed.PlacedFinding.{PlacedFinding}
use Rattle.wire_anywhere.specs.Anywhere.{all_placed}

-- one of those that are met is this
abbrev pub TellsPlacementFinding : Plan → List PlacedFinding → PlacementFinding → Type 0
TellsPlacementFinding plan found f = HasPlacementFinding (all_placed plan found) f

-- each is found on some placing
abbrev pub AreSomewhere : Plan → List PlacedFinding → Type 0
AreSomewhere plan found = (f : PlacementFinding) → TellsPlacementFinding plan found f → IsFoundSomewhere plan f

-- those are added, and nothing else
pub record AddsPlacementFindings (plan : Plan) (old new : List PlacedFinding) (those : PlacementFinding → Type 0) : Type 0 where
  pub kept : (f : PlacementFinding) → TellsPlacementFinding plan old f → TellsPlacementFinding plan new f
  pub all : (f : PlacementFinding) → those f → TellsPlacementFinding plan new f
  pub only : (f : PlacementFinding) → TellsPlacementFinding plan new f → TellsPlacementFinding plan old f ⊎ those f

-- those that one of p's first n events tells
abbrev pub ToldIn : (Event → PlacementFinding → Type 0) → ℕ → ℕ → PlacementFinding → Type 0
ToldIn tells p n f = (y : Event) × tells y f × (y.proc ≡ p) × (y.at < n)

-- one of these findings, of every placing
abbrev pub IsOnAll : Plan → List Told → PlacementFinding → Type 0
IsOnAll plan found f = (g : Finding) × (f ≡ OnAll g) × TellsUnplaced plan found g

-- a piece tells exactly these findings
abbrev pub IsPiece : Plan → (PlacementFinding → Type 0) → List PlacedFinding → Type 0
IsPiece plan those piece = (f : PlacementFinding) → TellsPlacementFinding plan piece f ↔ those f

-- there are n pieces, the one of number k of the findings of k
pub record ArePieces (plan : Plan) (n : ℕ) (those : ℕ → PlacementFinding → Type 0) (pieces : List (List PlacedFinding)) : Type 0 where
  pub count : length pieces ≡ n
  pub each : (k : ℕ) (piece : List PlacedFinding) → slice_get pieces k ≡ Some piece → IsPiece plan (those k) piece

-- some piece tells the finding
abbrev pub IsInSome : Plan → List (List PlacedFinding) → PlacementFinding → Type 0
IsInSome plan pieces f = (k : ℕ) × (piece : List PlacedFinding) × (slice_get pieces k ≡ Some piece) × TellsPlacementFinding plan piece f
