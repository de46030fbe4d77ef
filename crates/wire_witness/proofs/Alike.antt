-- Runs that end alike.
use Rattle.std.proofs.Common.{◌≡◌, ◌∙◌, sym, ap, subst, Some}
use Rattle.std.specs.Prelude.{option_map}
use Rattle.wire_types.specs.declared.CallAt.{CallAt}
use Rattle.wire_scripts.specs.Scripts.{Scripts}
use Rattle.wire_scripts.specs.Planned.{plan_of}
use Rattle.wire_words.specs.Words.{end_text}
use Rattle.wire_witness.specs.declared.runs.Run.{Run}
use Rattle.wire_runs.specs.Ends.{first_event}
use Rattle.wire_witness.specs.declared.search.Runs.{Runs}
use Rattle.wire_witness.specs.NotShown.{EndAlike, EndAlikeWhereMade, IsHeldRun, NoRunDiffers}
use Rattle.wire_witness.specs.Runs.{IsWitnessRun, steps_of, AreHeldRuns, AreNeededRuns, AreAlikeBeside}

pub end_alike : (s : Scripts) (x y : CallAt) (first second : Run) → IsWitnessRun s x y first → IsWitnessRun s y x second → end_text s first.first_end ≡ end_text s second.other_end →
    end_text s first.other_end ≡ end_text s second.first_end → EndAlike s x y first.core.history second.core.history
end_alike s x y first second is_first is_second of_x of_y = record {
  of_x = ap (option_map (end_text s)) is_first.first_end ∙ ap Some of_x ∙ sym (ap (option_map (end_text s)) is_second.other_end);
  of_y = ap (option_map (end_text s)) is_first.other_end ∙ ap Some of_y ∙ sym (ap (option_map (end_text s)) is_second.first_end);
}

-- the runs in which a call is held back, of a plan that is this one
pub held_runs : (s t : Scripts) (x y : CallAt) (runs : Runs) → t ≡ s → IsHeldRun (plan_of t) (first_event (plan_of t) x) (first_event (plan_of t) y) (steps_of runs.first) →
    IsHeldRun (plan_of t) (first_event (plan_of t) y) (first_event (plan_of t) x) (steps_of runs.second) → AreHeldRuns s x y runs
held_runs s t x y runs same first second =
    subst (λ u. AreHeldRuns u x y runs) same (let made : AreHeldRuns t x y runs = record { first = first; second = second } in made)

-- all four runs
pub none_differs : (s t : Scripts) (x y : CallAt) (held needed : Runs) → t ≡ s → AreNeededRuns s x y needed → EndAlikeWhereMade t x y (steps_of held.first) (steps_of held.second) →
    AreAlikeBeside t x y held needed → NoRunDiffers s x y (steps_of held.first) (steps_of held.second)
none_differs s t x y held needed same are held_alike beside = record {
  needed_first = steps_of needed.first;
  needed_second = steps_of needed.second;
  first_is = are.first;
  second_is = are.second;
  held = subst (λ u. EndAlikeWhereMade u x y (steps_of held.first) (steps_of held.second)) same held_alike;
  needed = subst (λ u. EndAlikeWhereMade u x y (steps_of needed.first) (steps_of needed.second)) same beside.needed_alike;
  held_needed = subst (λ u. EndAlikeWhereMade u x y (steps_of held.first) (steps_of needed.second)) same beside.held_needed;
  needed_held = subst (λ u. EndAlikeWhereMade u x y (steps_of needed.first) (steps_of held.second)) same beside.needed_held;
}
