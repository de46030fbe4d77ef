-- Two runs that are laid beside each other.
use Rattle.std.proofs.Common.{◌≡◌, ◌∙◌, ap, sym, subst, ℕ, length}
use Rattle.std.specs.Prelude.{slice_get}
use Rattle.wire_scripts.specs.Scripts.{Scripts, calls_in}
use Rattle.wire_scripts.specs.Planned.{plan_of}
use Rattle.wire_words.specs.Words.{end_text}
use Rattle.wire_runs.specs.Ends.{calls_of}
use Rattle.std.proofs.Common.{Some}
use Rattle.wire_types.specs.declared.CallAt.{CallAt}
use Rattle.wire_scripts.specs.Scripts.{numbers_of}
use Rattle.wire_scripts.proofs.PlannedCalls.{as_many_planned}
use Rattle.wire_witness.specs.declared.witness.Witness.{Witness}
use Rattle.wire_witness.specs.declared.runs.Run.{Run}
use Rattle.wire_witness.specs.declared.search.Difference.{Difference}
use Rattle.wire_witness.specs.Witness.{IsRunWithFirst, AreBoth, IsWitness, end_after}
use Rattle.wire_witness.specs.Runs.{IsWitnessRun, EndsDiffer}

-- how many calls a process makes
pub made : (s : Scripts) (p : ℕ) → length (calls_in (slice_get s.processes p)) ≡ length (calls_of (plan_of s) p)
made = as_many_planned

-- two runs, in which a call ends differently, are a witness
pub laid : (scripts : Scripts) (x y : CallAt) (first second : Run) (apart : Difference) (w : Witness) → IsWitnessRun scripts x y first → IsWitnessRun scripts y x second →
    EndsDiffer scripts x y first second apart → numbers_of w.first.items ≡ first.core.history → numbers_of w.second.items ≡ second.core.history →
    w.call ≡ apart.call → w.other ≡ apart.other → w.first_end ≡ apart.first_end → w.second_end ≡ apart.second_end → IsWitness scripts x y w
laid scripts x y first second apart w is_first is_second are steps others call other first_end second_end = record {
  first = subst (λ order. IsRunWithFirst (plan_of scripts) order x y) (sym steps) is_first.with_first;
  second = subst (λ order. IsRunWithFirst (plan_of scripts) order y x) (sym others) is_second.with_first;
  both = subst (λ o. AreBoth x y w.call o) (sym other) (subst (λ c. AreBoth x y c apart.other) (sym call) are.both);
  first_end = (λ i. end_after (plan_of scripts) (steps i) (call i)) ∙ are.first_end ∙ ap Some (sym first_end);
  second_end = (λ i. end_after (plan_of scripts) (others i) (call i)) ∙ are.second_end ∙ ap Some (sym second_end);
  differ = λ same. are.differ (ap (end_text scripts) (sym first_end) ∙ same ∙ ap (end_text scripts) second_end);
}

pub laid_ok : (scripts : Scripts) (x y : CallAt) (first second : Run) (apart : Difference) (w : Witness) → IsWitnessRun scripts x y first → IsWitnessRun scripts y x second →
    EndsDiffer scripts x y first second apart → numbers_of w.first.items ≡ first.core.history → numbers_of w.second.items ≡ second.core.history →
    (w.call ≡ apart.call) × (w.other ≡ apart.other) × (w.first_end ≡ apart.first_end) × (w.second_end ≡ apart.second_end) → IsWitness scripts x y w
laid_ok scripts x y first second apart w is_first is_second are steps others same = laid scripts x y first second apart w is_first is_second are steps others same.0 same.1 same.2 same.3
