-- A state that a run came to, told by its cut: where no process can take an event, it is the plain run's end.
use Rattle.std.proofs.Common.{◌≡◌, ◌∙◌, ap, sym, refl, subst, ℕ, ◌<◌, List, true, arith}
use Rattle.std.proofs.lemmas.Bool.{false_from_ne_true}
use Rattle.wire_scripts.specs.Scripts.{Scripts}
use Rattle.wire_scripts.specs.Planned.{plan_of}
use Rattle.wire_runs.specs.Plan.{Plan, process_count}
use Rattle.wire_runs.specs.State.{State, start, next_event}
use Rattle.wire_runs.specs.Step.{is_enabled, run, IsInterleaving, IsEnd, IsReachable}
use Rattle.wire_runs.specs.Ends.{outcome}
use Rattle.wire_runs.specs.PlainRun.{plain_run}
use Rattle.wire_runs.specs.Order.{Edge}
use Rattle.wire_runs.specs.Fate.{Waits, HasFate}
use Rattle.wire_runs.specs.Races.{IsSettled}
use Rattle.wire_runs.proofs.Due.{reachable_sound, room, enabled_is_due}
use Rattle.wire_runs.proofs.Fates.{fates_tell}
use Rattle.wire_runs.proofs.PlainRun.{enabled_within, plain_runs}
use Rattle.wire_core.specs.EndsAfter.{plain_ends}
use Rattle.wire_board.specs.Cuts.{IsReachedCut}
use Rattle.wire_board.specs.Positions.{hold, next_in, ShowsNextIn}

-- the words show that the next event of an enabled process can happen
shown_if_enabled : (scripts : Scripts) (words : List ℕ) (c : IsReachedCut (plan_of scripts) words) (p : ℕ) → IsSettled (plan_of scripts) → is_enabled (plan_of scripts) c.state p ≡ true →
    ShowsNextIn (plan_of scripts) (hold scripts p words)
shown_if_enabled scripts words c p settled on =
    let plan = plan_of scripts in
    let same : next_event c.state p ≡ next_in (hold scripts p words) = λ i. record { proc = p; at = c.done p i } in
    let due = enabled_is_due plan c.state p c.reached on in
    let fits = room plan c.state p (reachable_sound plan c.state c.reached) on in
    let here = c.done p in
    record {
      next = omega (arith, fits, here);
      sources = λ x e. (let d = due.sources_done x (subst (λ y. Edge plan x y) (sym same) e) in let w = c.done x.proc in omega (arith, d, w));
      comes = λ w. (((fates_tell plan c.state settled c.reached).enabled p Waits (subst (λ y. HasFate plan y Waits) (sym same) w)).0 on).1 refl;
    }

pub end_if_none_shown : (scripts : Scripts) (words : List ℕ) (c : IsReachedCut (plan_of scripts) words) → IsSettled (plan_of scripts) →
    ((p : ℕ) → p < process_count (plan_of scripts) → ¬ (ShowsNextIn (plan_of scripts) (hold scripts p words))) → IsEnd (plan_of scripts) c.state
end_if_none_shown scripts words c settled rests p =
    false_from_ne_true _ (λ on. rests p (enabled_within (plan_of scripts) c.state p on) (shown_if_enabled scripts words c p settled on))

pub is_plain_end : (plan : Plan) (s : State) → IsSettled plan → IsReachable plan s → IsEnd plan s → s ≡ run plan (plain_run plan)
is_plain_end plan s settled r end = sym r.2 ∙ (plain_runs plan).is_the_end settled r.0 r.1 (subst (IsEnd plan) (sym r.2) end)

-- what became of every call where a run can't go on is what the plain run gives
pub ends_plainly : (scripts : Scripts) (history : List ℕ) → IsSettled (plan_of scripts) → IsInterleaving (plan_of scripts) start history → IsEnd (plan_of scripts) (run (plan_of scripts) history) →
    outcome (plan_of scripts) (run (plan_of scripts) history) ≡ plain_ends scripts
ends_plainly scripts history settled legal end = ap (outcome (plan_of scripts)) (is_plain_end (plan_of scripts) (run (plan_of scripts) history) settled (history, legal, refl) end)
