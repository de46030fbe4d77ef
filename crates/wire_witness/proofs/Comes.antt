-- That one event comes before another in a run, as the run goes on.
use Rattle.std.proofs.Common.{◌≡◌, ◌∙◌, ap, sym, subst, ℕ, List, [], ◌++◌, append_assoc, Some}
use Rattle.std.specs.Prelude.{slice_get}
use Rattle.std.proofs.lemmas.List.{append-nil}
use Rattle.wire_runs.specs.Plan.{Plan, Event}
use Rattle.wire_runs.specs.State.{start, IsDone}
use Rattle.wire_runs.specs.Step.{IsInterleaving, IsEnd}
use Rattle.wire_runs.specs.Ends.{first_event, row}
use Rattle.wire_types.specs.declared.CallAt.{CallAt}
use Rattle.wire_scripts.specs.Scripts.{Scripts}
use Rattle.wire_scripts.specs.Planned.{plan_of}
use Rattle.wire_core.specs.Course.{Course, plan_in, state_of}
use Rattle.wire_core.specs.Within.{RunsWithin}
use Rattle.wire_witness.specs.declared.runs.Run.{Run}
use Rattle.wire_witness.specs.Witness.{ComesFirst, IsRunWithFirst, end_after}
use Rattle.wire_witness.specs.Runs.{IsWitnessRun}

-- steps more
pub comes_later : (plan : Plan) (steps more : List ℕ) (x y : Event) → ComesFirst plan steps x y → ComesFirst plan (steps ++ more) x y
comes_later plan steps more x y first = record {
  so_far = first.so_far;
  later = first.later ++ more;
  parts = ap (λ w. w ++ more) first.parts ∙ append_assoc first.so_far first.later more;
  came = first.came;
  not_yet = first.not_yet;
}

-- at the end of what has run so far
pub comes_now : (course : Course) (x y : Event) → IsDone (state_of course) x → ¬ (IsDone (state_of course) y) → ComesFirst (plan_in course) course.history x y
comes_now course x y came not_yet = record { so_far = course.history; later = []; parts = sym (append-nil course.history); came = came; not_yet = not_yet }

-- a run within limits goes on with the same scripts
pub kept_scripts : (limits : List ℕ) (old new : Course) → RunsWithin limits old new → new.scripts ≡ old.scripts
kept_scripts limits old new runs = ap (λ course. course.scripts) runs.follows.taken

pub comes_within : (limits : List ℕ) (old new : Course) (x y : Event) → RunsWithin limits old new → ComesFirst (plan_in old) old.history x y → ComesFirst (plan_in new) new.history x y
comes_within limits old new x y runs first =
    subst (λ (course : Course). ComesFirst (plan_in course) course.history x y) (sym runs.follows.taken) (comes_later (plan_in old) old.history runs.steps x y first)

-- a core in whose run x has come first is run to an end
pub finished : (old new : Course) (more : List ℕ) (x y : CallAt) (run : Run) → new ≡ record { scripts = old.scripts; history = old.history ++ more } →
    ComesFirst (plan_in old) old.history (first_event (plan_in old) x) (first_event (plan_in old) y) → IsInterleaving (plan_in new) start new.history → IsEnd (plan_in new) (state_of new) →
    slice_get (row (plan_in new) (state_of new) x.proc.number) x.call ≡ Some run.first_end → slice_get (row (plan_in new) (state_of new) y.proc.number) y.call ≡ Some run.other_end →
    run.core ≡ new → IsWitnessRun old.scripts x y run
finished old new more x y run is first legal ended first_end other_end core =
    let scripts : new.scripts ≡ old.scripts = ap (λ course. course.scripts) is in
    let comes : ComesFirst (plan_in new) new.history (first_event (plan_in new) x) (first_event (plan_in new) y) =
    subst (λ (c : Course). ComesFirst (plan_in c) c.history (first_event (plan_in c) x) (first_event (plan_in c) y)) (sym is)
    (comes_later (plan_in old) old.history more (first_event (plan_in old) x) (first_event (plan_in old) y) first) in
    let with_first : IsRunWithFirst (plan_in new) new.history x y = record { whole = record { legal = legal; ended = ended }; first = comes } in
    let at_end : (s : Scripts) → new.scripts ≡ s → IsRunWithFirst (plan_of s) new.history x y × (end_after (plan_of s) new.history x ≡ Some run.first_end)
    × (end_after (plan_of s) new.history y ≡ Some run.other_end) =
    λ s same. subst (λ t. IsRunWithFirst (plan_of t) new.history x y × (end_after (plan_of t) new.history x ≡ Some run.first_end) × (end_after (plan_of t) new.history y ≡ Some run.other_end)) same
    (with_first, first_end, other_end) in
    let all = at_end old.scripts scripts in
    record {
      scripts_are = ap (λ course. course.scripts) core ∙ scripts;
      with_first = subst (λ (c : Course). IsRunWithFirst (plan_of old.scripts) c.history x y) (sym core) all.0;
      first_end = subst (λ (c : Course). end_after (plan_of old.scripts) c.history x ≡ Some run.first_end) (sym core) all.1;
      other_end = subst (λ (c : Course). end_after (plan_of old.scripts) c.history y ≡ Some run.other_end) (sym core) all.2;
    }
