-- Findings, of which there are some.
use Rattle.std.proofs.Common.{◌≡◌, ◌∙◌, ap, sym, subst, inl, inr, ◌⊎◌, ℕ, List, length, map, Bool, true, false, ◌==◌, Result, Ok, Err, Option, None, Some}
use Rattle.std.specs.Prelude.{Vec, IfOk, IfErr, IfSome}
use Rattle.std.specs.declared.alloc.Global.{Global}
use Rattle.std.proofs.lemmas.Bool.{true≢false}
use Rattle.wire_scripts.specs.Scripts.{Scripts}
use Rattle.wire_findings.specs.declared.finding.Finding.{Finding}
use Rattle.wire_findings.specs.Findings.{AreFindings}
use Rattle.wire_findings.proofs.OneList.{none_told}
use Rattle.wire_scripts.specs.Planned.{plan_of}
use Rattle.wire_runs.specs.Races.{IsSettled}
use Rattle.wire_reader.specs.declared.Size.TheVariants.{OfVersion}
use Rattle.wire_reader.specs.Reads.{Reads}
use Rattle.wire_pattern.specs.Pattern.{Pattern}
use Rattle.wire_pattern.specs.Instances as text
use Rattle.wire_pattern.specs.Instances.{instance_text}
use Rattle.wire_types.specs.declared.Fault.{Fault}
use Rattle.wire_types.specs.declared.Fault.TheVariants.{Memory}
use Rattle.wire_instances.specs.declared.cast.Cast.{Cast}
use Rattle.wire_instances.specs.Views.{cast_by, choice_by}
use Rattle.wire_cutoff.specs.declared.counterexample.Counterexample.{Counterexample}
use Rattle.wire_cutoff.specs.Judged.{IsFewCast, IsFoundIn, AreMoved, IsJudgeFault, IsLimitFault, IsWithinPatternLimits, IsSweepFault}
use Rattle.wire_cutoff.specs.Views.{IsShownFor}
use Rattle.wire_cutoff.proofs.Judgement.{empty}

pub found_in : (s now : Scripts) (found : List Finding) (r : Bool) → now ≡ s → AreFindings now found → r ≡ (length found == 0) → r ≡ false → IsFoundIn s found
found_in s now found r is are nothing some = (
  subst (λ t. AreFindings t found) is are,
  λ none. true≢false (sym (nothing ∙ ap (λ xs. length xs == 0) none) ∙ some),
)

-- or there are none
pub nothing_in : (s now : Scripts) (found : List Finding) (r : Bool) → now ≡ s → AreFindings now found → r ≡ (length found == 0) → r ≡ true
    → IsSettled (plan_of s)
nothing_in s now found r is are nothing none =
    (none_told s found (subst (λ t. AreFindings t found) is are)).0 (empty found (sym nothing ∙ none))

-- what is found in the scripts of a cast
abbrev pub IsFoundWith : Cast → Vec ℕ Global → Scripts → Counterexample → Type 0
IsFoundWith cast text scripts c = (c.cast ≡ cast) × (c.text ≡ text) × (c.plan ≡ scripts) × IsFoundIn scripts c.findings.items

shown : (p : Pattern) (cast : text.Cast) (placed : Cast) (t : Vec ℕ Global) (s : Scripts) (c : Counterexample) → IsFewCast p (cast_by placed)
    → AreMoved cast (cast_by placed) → t.items ≡ instance_text p (cast_by placed) → Reads OfVersion (instance_text p (cast_by placed)) (Ok s)
    → IsFoundWith placed t s c → IsShownFor p cast c
shown p cast placed t s c few moved is reads with =
    let same : c.text.items ≡ t.items = ap (λ (v : Vec ℕ Global). v.items) with.1 in (
      record {
        is_few = subst (λ k. IsFewCast p (cast_by k)) (sym with.0) few;
        is = same ∙ is ∙ ap (λ k. instance_text p (cast_by k)) (sym with.0);
        reads =
            subst (λ x. Reads OfVersion x (Ok c.plan)) (sym (same ∙ is))
            (subst (λ x. Reads OfVersion (instance_text p (cast_by placed)) (Ok x)) (sym with.2) reads);
        found_in = subst (λ x. IsFoundIn x c.findings.items) (sym with.2) with.3;
      },
      (ap (λ (k : Cast). k.sizes.items) with.0 ∙ moved.0, ap (λ (k : Cast). map choice_by k.chosen.items) with.0 ∙ moved.1),
    )

pub shown_by : (p : Pattern) (cast : text.Cast) (placed : Cast) (t : Vec ℕ Global) (s : Scripts) (r : Result (Option Counterexample) Fault)
    → IsFewCast p (cast_by placed) → AreMoved cast (cast_by placed) → t.items ≡ instance_text p (cast_by placed)
    → Reads OfVersion (instance_text p (cast_by placed)) (Ok s) → IfOk r (λ found. IfSome found (λ c. IsFoundWith placed t s c))
    → IfOk r (λ found. IfSome found (λ c. IsShownFor p cast c))
shown_by p cast placed t s (Err e) few moved is reads found = tt
shown_by p cast placed t s (Ok None) few moved is reads found = tt
shown_by p cast placed t s (Ok (Some c)) few moved is reads found = shown p cast placed t s c few moved is reads found

-- within the limits a fault of the judgement is one of the sweep
pub sweep_fault : {A : Type 0} (p : Pattern) (r : Result A Fault) → IsWithinPatternLimits p → IfErr r (λ e. IsJudgeFault p e) → IfErr r (λ e. IsSweepFault p e)
sweep_fault p (Ok x) within is = tt
sweep_fault p (Err e) within (inl memory) = inl memory
sweep_fault p (Err e) within (inr told) = inr (inr (within, told))

-- and so is one of the limits
pub limit_fault : (p : Pattern) (e : Fault) → (e ≡ Memory) ⊎ IsLimitFault p e → IsSweepFault p e
limit_fault p e (inl memory) = inl memory
limit_fault p e (inr limit) = inr (inl limit)
