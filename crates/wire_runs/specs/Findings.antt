-- The list of findings.
use Rattle.std.specs.Prelude.{◌≡◌, ℕ, List, [], ◌∷◌, Bool, true, ◌⊎◌, ◌↔◌}
use Rattle.wire_runs.specs.Plan.{Plan, Event}
use Rattle.wire_runs.specs.EventLists.{IsLower}
use Rattle.wire_runs.specs.Races.{IsRewrite, IsNodeRace, IsDeliveryRace, IsNameRace}

-- what the checker reports: of two events the lower comes first
pub data Finding : Type 0 where
  Rewrite : (first later : Event) → Finding
  KeyRace : (lower higher : Event) → (owner key : ℕ) → Finding
  NameRace : (lower higher : Event) → (name : ℕ) → Finding

-- a race on a key: x is the commit or the arrival, y the get-now
abbrev pub IsKeyRace : Plan → Event → Event → ℕ → ℕ → Type 0
IsKeyRace plan x y owner key = ((x.proc ≡ owner) × IsNodeRace plan x y key) ⊎ IsDeliveryRace plan x y owner key

abbrev pub IsFound : Plan → Finding → Type 0
IsFound plan (Rewrite x y) = IsRewrite plan x y
IsFound plan (KeyRace x y owner key) = IsLower x y × (IsKeyRace plan x y owner key ⊎ IsKeyRace plan y x owner key)
IsFound plan (NameRace x y name) = IsLower x y × (IsNameRace plan x y name ⊎ IsNameRace plan y x name)

-- the order of pairs: by the lower event, then by the higher
abbrev pub IsPairLower : Event → Event → Event → Event → Type 0
IsPairLower x y v w = IsLower x v ⊎ ((x ≡ v) × IsLower y w)

-- the order of findings: rewrites by the later put, then races by their events; two races of one pair by their names,
-- in the order that is given
abbrev pub IsSooner : (ℕ → ℕ → Bool) → Finding → Finding → Type 0
IsSooner lower_name (Rewrite x y) (Rewrite v w) = IsLower y w
IsSooner lower_name (Rewrite x y) _ = Unit {0}
IsSooner lower_name _ (Rewrite v w) = ⊥
IsSooner lower_name (KeyRace x y p key) (KeyRace v w q other) = IsPairLower x y v w
IsSooner lower_name (KeyRace x y p key) (NameRace v w name) = IsPairLower x y v w
IsSooner lower_name (NameRace x y name) (KeyRace v w q other) = IsPairLower x y v w
IsSooner lower_name (NameRace x y name) (NameRace v w other) = IsPairLower x y v w ⊎ ((x ≡ v) × (y ≡ w) × (lower_name name other ≡ true))

abbrev pub Has : List Finding → Finding → Type 0
Has [] f = ⊥
Has (g ∷ found) f = (f ≡ g) ⊎ Has found f

-- each comes sooner than all that follow it
abbrev pub IsSorted : (ℕ → ℕ → Bool) → List Finding → Type 0
IsSorted lower_name [] = Unit {0}
IsSorted lower_name (g ∷ found) = ((f : Finding) → Has found f → IsSooner lower_name g f) × IsSorted lower_name found

-- the list of findings: a finding is in it exactly where the definition of its kind holds, and the list is in order
pub record IsFindings (plan : Plan) (lower_name : ℕ → ℕ → Bool) (found : List Finding) : Type 0 where
  pub those : (f : Finding) → Has found f ↔ IsFound plan f
  pub sorted : IsSorted lower_name found
