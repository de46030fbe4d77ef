-- The list of what is found on some placing.
use Rattle.std.specs.Prelude.{◌≡◌, ℕ, ◌<◌, List, [], ◌∷◌, Bool, ◌⊎◌, ◌↔◌}
use Rattle.wire_runs.specs.Plan.{Plan, Event}
use Rattle.wire_runs.specs.EventLists.{IsLower}
use Rattle.wire_runs.specs.Findings.{Finding, Rewrite, KeyRace, NameRace, IsFound, IsSooner}
use Rattle.wire_runs.specs.Races.{IsNearRace}
use Rattle.wire_runs.specs.Placings.{IsFarRace}

-- a finding: of every placing, or of that which gives two processes a node of their own, the lower named first
pub data PlacementFinding : Type 0 where
  OnAll : Finding → PlacementFinding
  OnPair : Finding → (lower higher : ℕ) → PlacementFinding

abbrev pub finding_of : PlacementFinding → Finding
finding_of (OnAll f) = f
finding_of (OnPair f a b) = f

-- the two processes, the lower first
abbrev pub IsPair : ℕ → ℕ → ℕ → ℕ → Type 0
IsPair a b p q = (a < b) × (((a ≡ p) × (b ≡ q)) ⊎ ((a ≡ q) × (b ≡ p)))

-- m is the lowest process with which the race is far
pub record IsLeastFar (plan : Plan) (source get : Event) (owner key m : ℕ) : Type 0 where
  pub far : IsFarRace plan source get owner key m
  pub least : (k : ℕ) → k < m → ¬ (IsFarRace plan source get owner key k)

-- a race on a key, on a placing that gives a and b a node of their own: x is the commit or the arrival, y the get-now
abbrev pub IsKeyRaceOn : Plan → Event → Event → ℕ → ℕ → ℕ → ℕ → Type 0
IsKeyRaceOn plan x y owner key a b =
    ((x.proc ≡ owner) × IsNearRace plan x y key × IsPair a b x.proc y.proc)
    ⊎ ((m : ℕ) × IsLeastFar plan x y owner key m × IsPair a b y.proc m)

abbrev pub IsFoundSomewhere : Plan → PlacementFinding → Type 0
IsFoundSomewhere plan (OnAll (Rewrite x y)) = IsFound plan (Rewrite x y)
IsFoundSomewhere plan (OnAll (NameRace x y name)) = IsFound plan (NameRace x y name)
IsFoundSomewhere plan (OnAll (KeyRace x y owner key)) = ⊥
IsFoundSomewhere plan (OnPair (KeyRace x y owner key) a b) = IsLower x y
    × (IsKeyRaceOn plan x y owner key a b ⊎ IsKeyRaceOn plan y x owner key a b)
IsFoundSomewhere plan (OnPair _ a b) = ⊥

abbrev pub HasPlacementFinding : List PlacementFinding → PlacementFinding → Type 0
HasPlacementFinding [] f = ⊥
HasPlacementFinding (g ∷ found) f = (f ≡ g) ⊎ HasPlacementFinding found f

-- each comes sooner than all that follow it
abbrev pub IsPlacedSorted : (ℕ → ℕ → Bool) → List PlacementFinding → Type 0
IsPlacedSorted lower_name [] = Unit {0}
IsPlacedSorted lower_name (g ∷ found) =
    ((f : PlacementFinding) → HasPlacementFinding found f → IsSooner lower_name (finding_of g) (finding_of f))
    × IsPlacedSorted lower_name found

-- the list of what is found on some placing, in order
pub record IsFindingsAnywhere (plan : Plan) (lower_name : ℕ → ℕ → Bool) (found : List PlacementFinding) : Type 0 where
  pub those : (f : PlacementFinding) → HasPlacementFinding found f ↔ IsFoundSomewhere plan f
  pub sorted : IsPlacedSorted lower_name found
