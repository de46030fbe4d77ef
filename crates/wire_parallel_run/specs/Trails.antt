-- What trails tell of a run that can't go on.
use Rattle.std.specs.Prelude.{◌≡◌, ℕ, zero, suc, ◌-◌, ◌<◌, List, [], ◌∷◌, ◌++◌, false, Option, Some, None, Vec, length}
use Rattle.std.specs.Prelude.{map, nat_lt, slice_get, slice_index}
use Rattle.std.specs.Prelude.{if◌then◌else◌}
use Rattle.std.specs.List.{flat_map}
use Rattle.std.specs.declared.alloc.Global.{Global}
use Rattle.wire_types.specs.Outcome.{Ends}
use Rattle.wire_types.specs.declared.CallEnd.{CallEnd}
use Rattle.wire_types.specs.declared.CallEnd.TheVariants.{Replied}
use Rattle.wire_types.specs.declared.Reply.{Reply}
use Rattle.wire_scripts.specs.Scripts.{Scripts}
use Rattle.wire_scripts.specs.Planned.{plan_of}
use Rattle.wire_runs.specs.Plan.{Plan, event_count, process_count}
use Rattle.wire_runs.specs.Ends.{calls_of, unanswered}
use Rattle.wire_fates.specs.declared.Fate.{Fate}
use Rattle.wire_fates.specs.declared.Fate.TheVariants.{Says, Silent, Waits}
use Rattle.wire_board.specs.Positions.{hold, ShowsNextIn}

-- the fates in a trail; none where there is no trail
abbrev pub fates_in : Option (Vec Fate Global) → List Fate
fates_in None = []
fates_in (Some trail) = trail.items

abbrev pub trail_of : List (Vec Fate Global) → ℕ → List Fate
trail_of trails p = fates_in (slice_get trails p)

-- its trail is as long as its word, and the words don't show that its next event can happen
pub record IsAtRest (scripts : Scripts) (words : List ℕ) (p : ℕ) (trail : List Fate) : Type 0 where
  pub as_long : length trail ≡ slice_index words p
  pub rests : ¬ (ShowsNextIn (plan_of scripts) (hold scripts p words))

-- and so of each process
abbrev pub AreAtRest : Scripts → List ℕ → List (Vec Fate Global) → Type 0
AreAtRest scripts words trails = (p : ℕ) → p < process_count (plan_of scripts) → IsAtRest scripts words p (trail_of trails p)

-- The rest is for the contracts of private functions

-- the reply that a fate gives to a call, if it gives one
abbrev pub said_by : Fate → List Reply
said_by (Says reply) = reply ∷ []
said_by Silent = []
said_by Waits = []

abbrev pub said_in : List Fate → List Reply
said_in trail = flat_map said_by trail

-- of so many calls of a process that can't go on
abbrev pub told_row : List Fate → ℕ → List CallEnd
told_row trail calls = map Replied (said_in trail) ++ unanswered false (calls - length (said_in trail))

-- of the first n processes
abbrev pub told_rows : Plan → List (Vec Fate Global) → ℕ → List (List CallEnd)
told_rows plan trails zero = []
told_rows plan trails (suc n) = told_rows plan trails n ++ told_row (trail_of trails n) (length (calls_of plan n)) ∷ []

-- how many of them have events that aren't done
abbrev pub told_waiting : Plan → List (Vec Fate Global) → ℕ → ℕ
told_waiting plan trails zero = 0
told_waiting plan trails (suc n) = if nat_lt (length (trail_of trails n)) (event_count plan n) then suc (told_waiting plan trails n) else told_waiting plan
    trails n

abbrev pub told_outcome : Plan → List (Vec Fate Global) → Ends
told_outcome plan trails = record { rows = told_rows plan trails (process_count plan); waiting = told_waiting plan trails (process_count plan) }
