-- When the statuses of the instances that are judged are those of all.
use Rattle.std.proofs.Common.{◌≡◌, ◌∙◌, ◌⊎◌, inl, inr, refl, ap, sym, Bool, true, false, List, [], length, ◌==◌, ◌<◌, ◌^◌}
use Rattle.std.specs.Prelude.{◌||◌}
use Rattle.wire_runs.specs.State.{next_event}
use Rattle.wire_runs.specs.Laws.{plain_end}
use Rattle.wire_scripts.specs.Planned.{plan_of}
use Rattle.wire_pattern.specs.Pattern.{Pattern}
use Rattle.wire_pattern.specs.Lawful.{IsSoundPattern}
use Rattle.wire_cutoff_laws.specs.Sizes.{total_of}
use Rattle.wire_cutoff_laws.specs.Promised.{IsSettledForAll}
use Rattle.wire_cutoff.specs.Selections.{most_sizes}
use Rattle.wire_pattern_waits.specs.declared.lines.CallLine.{CallLine}
use Rattle.wire_pattern_waits.specs.Waits.{AllReadAsPlans, AllReplied}
use Rattle.wire_pattern_stages.specs.Lookups.{AllWaitForOne}
use Rattle.wire_answer_laws.specs.AnySize.{AllStandForOne, AnswersOfSmall, AnswersSuffice, RepliedStandForOne}
use Rattle.wire_pattern_commands.proofs.Emptied.{none_there}

-- where each lookup-wait is of one name, so is each at which a process stands
all_stand : (p : Pattern) → AllWaitForOne p → AllStandForOne p
all_stand p all = λ number selection scripts is reads q name has.
    all number selection is scripts reads (next_event (plain_end (plan_of scripts)) q) name has

pub either_known : (p : Pattern) (lines there : List CallLine) (empty for_one : Bool) → there ≡ lines → empty ≡ (length there == 0)
    → (AllWaitForOne p → for_one ≡ true) → (lines ≡ []) ⊎ AllWaitForOne p → empty || for_one ≡ true
either_known p lines there empty for_one same is all (inl none) = ap (λ e. e || for_one) (is ∙ ap (λ xs. length xs == 0) (same ∙ none))
either_known p lines there true for_one same is all (inr one) = refl
either_known p lines there false for_one same is all (inr one) = all one

module _ (p : Pattern) (sound : IsSoundPattern p) (settled : IsSettledForAll p) (few : total_of (most_sizes p.roles) < 2 ^ 31) (read : AllReadAsPlans p)
    (law : AnswersOfSmall) where
  by_standing : AllStandForOne p → AnswersSuffice p
  by_standing one = law p (record { sound = sound; settled = settled; few = few; read = read; one = one })

  pub suffices : (lines there : List CallLine) (empty for_one : Bool) → RepliedStandForOne → there ≡ lines → (lines ≡ [] → AllReplied p)
      → (for_one ≡ true → AllWaitForOne p) → empty ≡ (length there == 0) → empty || for_one ≡ true → AnswersSuffice p
  suffices lines there true for_one stand same replied one is either =
      by_standing (stand p (replied (sym same ∙ none_there there (sym is))))
  suffices lines there false for_one stand same replied one is either = by_standing (all_stand p (one either))
