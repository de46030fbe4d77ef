-- Races that were tried: whether a witness was found of each.
use Rattle.std.specs.Prelude.{◌≡◌, ℕ, List, [], ◌∷◌, ⊤, Option, Some, None, IfSome, is_some, count_by}
use Rattle.wire_types.specs.declared.CallAt.{CallAt}
use Rattle.wire_scripts.specs.Scripts.{Scripts}
use Rattle.wire_findings.specs.declared.finding.Finding.{Finding}
use Rattle.wire_races.specs.Reported.{race_calls}
use Rattle.wire_witness.specs.declared.witness.Witness.{Witness}
use Rattle.wire_witness.specs.declared.tried.TriedRace.{TriedRace}
use Rattle.wire_witness.specs.Witness.{IsWitness}
use Rattle.wire_witness.specs.NotShown.{IsNotShown}

-- there is a witness of the two calls in whose runs this call ends differently
pub record IsWitnessedBy (scripts : Scripts) (call : CallAt) (calls : CallAt × CallAt) : Type 0 where
  pub witness : Witness
  pub of_them : IsWitness scripts calls.0 calls.1 witness
  pub ends : witness.call ≡ call

-- a race by a call that shows it: there is such a witness; and by none: no witness of the race's calls is shown
abbrev pub IsTriedBy : Scripts → Finding → Option CallAt → Type 0
IsTriedBy scripts race (Some call) = IfSome (race_calls race) (IsWitnessedBy scripts call)
IsTriedBy scripts race None = IfSome (race_calls race) (λ calls. IsNotShown scripts calls.0 calls.1)

-- the race was tried, and is shown by that call, if by one
abbrev pub IsTried : Scripts → TriedRace → Type 0
IsTried scripts tried = IsTriedBy scripts tried.race tried.shown

-- and so for each of these
abbrev pub AreTried : Scripts → List TriedRace → Type 0
AreTried scripts [] = ⊤
AreTried scripts (one ∷ others) = IsTried scripts one × AreTried scripts others

-- how many of them are shown
abbrev pub count_shown : List TriedRace → ℕ
count_shown tried = count_by (λ one. is_some one.shown) tried
