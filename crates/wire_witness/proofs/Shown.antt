-- Races that were tried, and one more.
use Rattle.std.proofs.Common.{◌≡◌, ◌∙◌, ap, subst, sym, ℕ, suc, ◌+◌, List, [], ◌∷◌, ◌++◌, map, take, Some, IfSome, arith}
use Rattle.std.specs.Prelude.{slice_get}
use Rattle.std.proofs.lemmas.List.{map-append}
use Rattle.wire_types.specs.declared.CallAt.{CallAt}
use Rattle.wire_runs.proofs.Lists.{take_get}
use Rattle.wire_scripts.specs.Scripts.{Scripts}
use Rattle.wire_findings.specs.declared.finding.Finding.{Finding}
use Rattle.wire_witness.specs.Witness.{IsWitness}
use Rattle.wire_witness.specs.declared.witness.Witness.{Witness}
use Rattle.wire_races.specs.Reported.{race_calls}
use Rattle.wire_witness.specs.Tried.{IsWitnessedBy, IsTried, AreTried}
use Rattle.wire_witness.specs.declared.tried.TriedRace.{TriedRace}

with_one : (scripts : Scripts) (tried : List TriedRace) (one : TriedRace) → AreTried scripts tried → IsTried scripts one → AreTried scripts (tried ++ one ∷ [])
with_one scripts [] one are is = (is, tt)
with_one scripts (first ∷ others) one are is = (are.0, with_one scripts others one are.1 is)

pub one_more : (scripts : Scripts) (tried later : List TriedRace) (one : TriedRace) → AreTried scripts tried → IsTried scripts one → later ≡ tried ++ one ∷ [] → AreTried scripts later
one_more scripts tried later one are is at = subst (AreTried scripts) (sym at) (with_one scripts tried one are is)

-- their races are those that were to be tried
pub races_on : (tried later : List TriedRace) (one : TriedRace) (races : List Finding) (i : ℕ) (race : Finding) → map (λ t. t.race) tried ≡ take i races → later ≡ tried ++ one ∷ [] → one.race ≡ race →
    slice_get races i ≡ Some race → map (λ t. t.race) later ≡ take (i + 1) races
races_on tried later one races i race so_far at same there =
    let more : suc i ≡ i + 1 = omega arith in
    ap (map (λ t. t.race)) at ∙ map-append (λ t. t.race) tried (one ∷ []) ∙ (λ k. so_far k ++ same k ∷ []) ∙ sym (take_get races i race there) ∙ ap (λ n. take n races) more

-- a witness of the calls of a race shows it
pub shown_race : (scripts : Scripts) (race : Finding) (calls : CallAt × CallAt) (witness : Witness) → Some calls ≡ race_calls race → IsWitness scripts calls.0 calls.1 witness →
    IfSome (race_calls race) (IsWitnessedBy scripts witness.call)
shown_race scripts race calls witness is of_them =
    subst (λ o. IfSome o (IsWitnessedBy scripts witness.call)) is (record { witness = witness; of_them = of_them; ends = λ i. witness.call })
