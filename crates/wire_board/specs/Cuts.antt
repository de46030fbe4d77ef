-- Words as the cut of a run: for each process the number of its events that are done.
use Rattle.std.specs.Prelude.{◌≡◌, ℕ, ◌<◌, ◌⊎◌, Bool, List, [], ◌∷◌, nat_lt, slice_index, if◌then◌else◌}
use Rattle.wire_runs.specs.Plan.{Plan, Event, process_count}
use Rattle.wire_runs.specs.State.{State}
use Rattle.wire_runs.specs.Step.{IsReachable}
use Rattle.wire_runs.specs.Order.{Edge}
use Rattle.wire_runs.specs.Fate.{IsSoundCut}
use Rattle.wire_runs.specs.Races.{IsSettled}
use Rattle.wire_scripts.specs.Scripts.{Scripts}
use Rattle.wire_scripts.specs.Planned.{plan_of}

-- how many processes the scripts have
abbrev pub procs_of : Scripts → ℕ
procs_of scripts = process_count (plan_of scripts)

-- the words are the cut of a state that a run can come to
pub record IsReachedCut (plan : Plan) (words : List ℕ) : Type 0 where
  pub state : State
  pub reached : IsReachable plan state
  pub done : (p : ℕ) → state.done p ≡ slice_index words p

-- whether these positions show that the event is done
abbrev pub shows_event : List ℕ → Event → Bool
shows_event known x = nat_lt x.at (slice_index known x.proc)

-- these events from the first one on that the positions don't show to be done; none where they show each
abbrev pub skip_shown : List ℕ → List Event → List Event
skip_shown known [] = []
skip_shown known (x ∷ xs) = if shows_event known x then skip_shown known xs else x ∷ xs

-- they show that all sources of the event are done
abbrev pub ShowsSources : Plan → List ℕ → Event → Type 0
ShowsSources plan known y = (x : Event) → Edge plan x y → x.at < slice_index known x.proc

-- what they show implies that the event is done: it is shown, or an event is shown that waits for it
abbrev pub Implies : Plan → List ℕ → Event → Type 0
Implies plan known x = (x.at < slice_index known x.proc) ⊎ ((z : Event) × Edge plan x z × (z.at < slice_index known z.proc))

-- it implies that all sources of the event are done
abbrev pub ImpliesSources : Plan → List ℕ → Event → Type 0
ImpliesSources plan known y = (x : Event) → Edge plan x y → Implies plan known x

-- such words, of a settled plan, are a sound cut
abbrev pub CutsAreSound : Type 0
CutsAreSound = (plan : Plan) (words : List ℕ) → IsSettled plan → IsReachedCut plan words → IsSoundCut plan (λ p. slice_index words p)
