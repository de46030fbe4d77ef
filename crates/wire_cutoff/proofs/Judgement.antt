-- What the judgement of an instance's text tells of the instance.
use Rattle.std.proofs.Common.{◌≡◌, ℕ, ◌+◌, List, [], ◌∷◌, length, take, Bool, true, Ok, Err, Result, ◌↔◌, refl, inl, inr, ◌⊎◌, ◌==◌, ap, sym, ◌∙◌, subst, arith}
use Rattle.std.proofs.lemmas.Bool.{eqb-true}
use Rattle.wire_types.specs.declared.Fault.{Fault}
use Rattle.wire_types.specs.declared.Fault.TheVariants.{Memory}
use Rattle.wire_scripts.specs.Scripts.{Scripts}
use Rattle.wire_scripts.specs.Planned.{plan_of}
use Rattle.wire_runs.specs.Plan.{Plan}
use Rattle.wire_runs.specs.Placings.{IsPlacing}
use Rattle.wire_runs.specs.Races.{IsSettled}
use Rattle.wire_runs.specs.Patterns.{instance_of}
use Rattle.wire_reader.specs.declared.Size.TheVariants.{OfVersion}
use Rattle.wire_reader.specs.Limits.{file_bytes}
use Rattle.wire_reader.specs.Reads.{Reads}
use Rattle.wire_reader.proofs.Limited.{reads_limited}
use Rattle.wire_pattern.specs.Pattern.{Pattern}
use Rattle.wire_pattern.specs.Planned.{pattern_of}
use Rattle.wire_pattern.specs.Lawful.{IsSoundPattern}
use Rattle.wire_pattern.specs.Instances.{Cast, cast_of, instance_text, instance_lines}
use Rattle.wire_pattern_laws.specs.Renumberings.{SettledByPlacing}
use Rattle.wire_runs.specs.Restrictions.{on_nodes}
use Rattle.wire_instance_laws.specs.Reading.{IsInstance, IsOfCast, InstancesRead}
use Rattle.wire_instances.specs.Faults.{fault_by}
use Rattle.wire_anywhere.specs.declared.placed.PlacedFinding.{PlacedFinding}
use Rattle.wire_anywhere.specs.Anywhere.{AreFoundAnywhere}
use Rattle.wire_cutoff_laws.specs.Promised.{IsChoiceSettled}
use Rattle.wire_cutoff.specs.Judged.{IsFewCast, IsJudgeFault, IsTextFault}

-- where the scripts of an instance's text are settled on all nodes, so is the instance
pub settled_choice : (p : Pattern) (cast : Cast) (s : Scripts) → IsSoundPattern p → IsFewCast p cast → InstancesRead → SettledByPlacing
    → Reads OfVersion (instance_text p cast) (Ok s) → ((other : Plan) → IsPlacing (plan_of s) other → IsSettled other)
    → IsChoiceSettled p cast.sizes cast.chosen
settled_choice p cast s sound few read by reads settled = λ coding nodes.
    let of : IsOfCast p cast s = read p cast OfVersion s sound few.cast_is reads in
    let i : IsInstance p cast s coding nodes = of.instances coding nodes in
    by (plan_of s) i.other (instance_of (pattern_of p) coding (on_nodes nodes (cast_of cast))) i.key i.name settled i.placing i.renumbered

-- an empty list
pub empty : {A : Type 0} (xs : List A) → (length xs == 0) ≡ true → xs ≡ []
empty [] is = refl
empty (x ∷ xs) is = absurd (omega (arith, eqb-true (length (x ∷ xs)) 0 is))

-- what the front of an instance's text reads as, all of it does
front_reads : (p : Pattern) (cast : Cast) (text : List ℕ) (r : Result Scripts Fault) → text ≡ take (file_bytes OfVersion + 1) (instance_text p cast)
    → Reads OfVersion text r → Reads OfVersion (instance_text p cast) r
front_reads p cast text r is reads = reads_limited OfVersion (instance_text p cast) r (subst (λ t. Reads OfVersion t r) is reads)

-- a text that is written up to a bound which is the limit and one byte more
pub front_of : (n : ℕ) (whole text : List ℕ) → n ≡ file_bytes OfVersion + 1 → text ≡ take n whole → text ≡ take (file_bytes OfVersion + 1) whole
front_of n whole text is written = subst (λ m. text ≡ take m whole) is written

-- a fault of the text, as one of the instance
pub text_fault : (p : Pattern) (cast : Cast) (text : List ℕ) (told fault : Fault) → text ≡ take (file_bytes OfVersion + 1) (instance_text p cast)
    → (told ≡ Memory) ⊎ Reads OfVersion text (Err told)
    → fault ≡ fault_by (instance_lines p cast) told → (fault ≡ Memory) ⊎ IsTextFault p cast fault
text_fault p cast text told fault is (inl memory) by = inl (by ∙ ap (fault_by (instance_lines p cast)) memory)
text_fault p cast text told fault is (inr reads) by = inr (record { told = told; reads = front_reads p cast text (Err told) is reads; is = by })

-- and as one of the pattern
pub fault_told : (p : Pattern) (cast : Cast) (fault : Fault) → IsFewCast p cast → (fault ≡ Memory) ⊎ IsTextFault p cast fault → IsJudgeFault p fault
fault_told p cast fault few (inl memory) = inl memory
fault_told p cast fault few (inr told) = inr (record { cast = cast; is_few = few; of_text = told })

-- where no placing has findings, all are settled
pub nothing_anywhere : (s now : Scripts) (found : List PlacedFinding) (r : Bool)
    → ((t : Scripts) (told : List PlacedFinding) → AreFoundAnywhere t told → ((told ≡ []) ↔ ((other : Plan) → IsPlacing (plan_of t) other → IsSettled other)))
    → now ≡ s → AreFoundAnywhere now found → r ≡ (length found == 0) → r ≡ true
    → (other : Plan) → IsPlacing (plan_of s) other → IsSettled other
nothing_anywhere s now found r exactly is are nothing none =
    (exactly s found (subst (λ t. AreFoundAnywhere t found) is are)).0 (empty found (sym nothing ∙ none))

-- so it is with the bytes that are read
pub reads_text : (p : Pattern) (cast : Cast) (now text : List ℕ) (r : Result Scripts Fault) → now ≡ text
    → text ≡ take (file_bytes OfVersion + 1) (instance_text p cast) → Reads OfVersion now r → Reads OfVersion (instance_text p cast) r
reads_text p cast now text r is was reads = front_reads p cast now r (is ∙ was) reads
