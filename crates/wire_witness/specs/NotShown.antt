-- What is known where no witness is shown: there are runs of four kinds, one of each, and none in which the one call
-- comes first ends otherwise than one in which the other does. Which run of its kind each is isn't told.
use Rattle.std.specs.Prelude.{◌≡◌, ◌⊎◌, ◌<◌, ℕ, List, [], ◌++◌, true, Option, Some, None, length, option_map}
use Rattle.wire_types.specs.declared.CallAt.{CallAt}
use Rattle.wire_scripts.specs.Scripts.{Scripts}
use Rattle.wire_scripts.specs.Planned.{plan_of}
use Rattle.wire_words.specs.Words.{end_text}
use Rattle.wire_runs.specs.Plan.{Plan, Event}
use Rattle.wire_runs.specs.State.{start, next_event, IsDone}
use Rattle.wire_runs.specs.Step.{is_enabled, IsInterleaving, run}
use Rattle.wire_runs.specs.Ends.{calls_of, first_event}
use Rattle.wire_happens_before.specs.Clocks.{LeadsTo}
use Rattle.wire_witness.specs.Witness.{IsWholeRun, end_after}

-- the steps are an interleaving in which y hasn't happened, and after which nothing but y can happen
pub record HoldsBack (plan : Plan) (y : Event) (steps : List ℕ) : Type 0 where
  pub legal : IsInterleaving plan start steps
  pub not_yet : ¬ (IsDone (run plan steps) y)
  pub only_it : (p : ℕ) → is_enabled plan (run plan steps) p ≡ true → next_event (run plan steps) p ≡ y

-- the run in which y is held back until nothing else can happen, and which then goes on to an end, where x has happened
-- by then; where it hasn't, there is no run
pub data IsHeldRun (plan : Plan) (x y : Event) (made : Option (List ℕ)) : Type 0 where
  XIsFirst : (so_far later : List ℕ) → HoldsBack plan y so_far → IsDone (run plan so_far) x
      → IsWholeRun plan (so_far ++ later) → made ≡ Some (so_far ++ later) → IsHeldRun plan x y made
  XIsMissing : (so_far : List ℕ) → HoldsBack plan y so_far → ¬ (IsDone (run plan so_far) x) → made ≡ None → IsHeldRun plan x y made

-- after the steps so far came more, each of an event that is z or before it, and after these no such event can happen
pub record RunsUpTo (plan : Plan) (z : Event) (so_far more : List ℕ) : Type 0 where
  pub legal : IsInterleaving plan start (so_far ++ more)
  pub needed : (e : Event) → IsDone (run plan (so_far ++ more)) e → IsDone (run plan so_far) e ⊎ LeadsTo plan e z
  pub no_more : (p : ℕ) → is_enabled plan (run plan (so_far ++ more)) p ≡ true → ¬ (LeadsTo plan (next_event (run plan (so_far ++ more)) p) z)

-- the run in which only what is before x comes before it, and after it only what is before y, up to y, and which then
-- goes on to an end; where x hasn't happened by its turn, or y has by then, or hasn't by its own turn, there is no run
pub data IsNeededRun (plan : Plan) (x y : Event) (made : Option (List ℕ)) : Type 0 where
  BothHappen : (to_x to_y later : List ℕ) → RunsUpTo plan x [] to_x → IsDone (run plan to_x) x
      → ¬ (IsDone (run plan to_x) y) → RunsUpTo plan y to_x to_y → IsDone (run plan (to_x ++ to_y)) y
      → IsWholeRun plan ((to_x ++ to_y) ++ later) → made ≡ Some ((to_x ++ to_y) ++ later) → IsNeededRun plan x y made
  XIsNotFirst : (to_x : List ℕ) → RunsUpTo plan x [] to_x
      → ¬ (IsDone (run plan to_x) x × (¬ (IsDone (run plan to_x) y))) → made ≡ None → IsNeededRun plan x y made
  YIsMissing : (to_x to_y : List ℕ) → RunsUpTo plan x [] to_x → RunsUpTo plan y to_x to_y
      → ¬ (IsDone (run plan (to_x ++ to_y)) y) → made ≡ None → IsNeededRun plan x y made

-- the call's end after these steps, as it is written
abbrev pub end_written : Scripts → List ℕ → CallAt → Option (List ℕ)
end_written scripts steps call = option_map (end_text scripts) (end_after (plan_of scripts) steps call)

-- each of the two calls ends alike in two runs, as it is written
pub record EndAlike (scripts : Scripts) (x y : CallAt) (first second : List ℕ) : Type 0 where
  pub of_x : end_written scripts first x ≡ end_written scripts second x
  pub of_y : end_written scripts first y ≡ end_written scripts second y

-- the same of two runs where both were made
abbrev pub EndAlikeWhereMade : Scripts → CallAt → CallAt → Option (List ℕ) → Option (List ℕ) → Type 0
EndAlikeWhereMade scripts x y (Some first) (Some second) = EndAlike scripts x y first second
EndAlikeWhereMade scripts x y _ _ = Unit {0}

-- there are two runs in which only what is needed comes before the calls; of these and two others, each in which x
-- comes first ends as each in which y does
pub record NoRunDiffers (scripts : Scripts) (x y : CallAt) (held_first held_second : Option (List ℕ)) : Type 0 where
  pub needed_first : Option (List ℕ)
  pub needed_second : Option (List ℕ)
  pub first_is : IsNeededRun (plan_of scripts) (first_event (plan_of scripts) x) (first_event (plan_of scripts) y) needed_first
  pub second_is : IsNeededRun (plan_of scripts) (first_event (plan_of scripts) y) (first_event (plan_of scripts) x) needed_second
  pub held : EndAlikeWhereMade scripts x y held_first held_second
  pub needed : EndAlikeWhereMade scripts x y needed_first needed_second
  pub held_needed : EndAlikeWhereMade scripts x y held_first needed_second
  pub needed_held : EndAlikeWhereMade scripts x y needed_first held_second

-- there are two runs in which a call is held back, and two in which only what is needed comes before the calls, of
-- which none shows a difference
pub record ShowsNothing (scripts : Scripts) (x y : CallAt) : Type 0 where
  pub held_first : Option (List ℕ)
  pub held_second : Option (List ℕ)
  pub first_is : IsHeldRun (plan_of scripts) (first_event (plan_of scripts) x) (first_event (plan_of scripts) y) held_first
  pub second_is : IsHeldRun (plan_of scripts) (first_event (plan_of scripts) y) (first_event (plan_of scripts) x) held_second
  pub none_differs : NoRunDiffers scripts x y held_first held_second

-- there is such a call in the plan
abbrev pub IsCall : Scripts → CallAt → Type 0
IsCall scripts call = call.call < length (calls_of (plan_of scripts) call.proc.number)

-- no witness of the two calls is shown: if both are the plan's, there are four such runs that show no difference
abbrev pub IsNotShown : Scripts → CallAt → CallAt → Type 0
IsNotShown scripts x y = IsCall scripts x → IsCall scripts y → ShowsNothing scripts x y
