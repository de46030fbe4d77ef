-- The rule of the table of words: what holds of the words, and of what the seats know, between any two steps.
use Rattle.std.specs.Prelude.{◌≡◌, ◌==◌, ℕ, zero, suc, ◌+◌, ◌<◌, ◌≤◌, false, List, [], ◌∷◌, length, map, replicate}
use Rattle.std.specs.Prelude.{slice_index, slice_set, if◌then◌else◌}
use mathlib.Core.Option.{some}
use lib.ListN.{get_elem?}
use Rattle.atomic_table.specs.Table.{State, Me, Step}
use Rattle.wire_runs.specs.Plan.{Plan, Event, event_count}
use Rattle.wire_runs.specs.Fate.{HasFate, Waits}
use Rattle.wire_scripts.specs.Scripts.{Scripts, no_scripts}
use Rattle.wire_scripts.specs.Planned.{plan_of}
use Rattle.wire_board.specs.declared.hold.Hold.{Hold}
use Rattle.wire_board.specs.Cuts.{procs_of, IsReachedCut, ShowsSources, ImpliesSources}

abbrev pub hold : Scripts → ℕ → List ℕ → Hold
hold plan rank known = record { plan = plan; rank = rank; known = known }

-- the rank's word is its place, and what is known of a word isn't above it
pub record HoldFits (plan : Scripts) (words : List ℕ) (h : Hold) : Type 0 where
  pub same : h.plan ≡ plan
  pub here : h.rank < length words
  pub size : length h.known ≡ length words
  pub place : slice_index h.known h.rank ≡ slice_index words h.rank
  pub below : (k : ℕ) → slice_index h.known k ≤ slice_index words k

-- P holds of each of these, as a pair for each
abbrev pub Each : (Hold → Type 0) → List Hold → Type 0
Each P [] = Unit {0}
Each P (h ∷ hs) = P h × Each P hs

-- how often a rank is owned by a seat
abbrev pub count_of : ℕ → List Hold → ℕ
count_of r [] = 0
count_of r (h ∷ hs) = (if h.rank == r then 1 else 0) + count_of r hs

-- and by all seats
abbrev pub owners_of : ℕ → List (List Hold) → ℕ
owners_of r [] = 0
owners_of r (v ∷ vs) = count_of r v + owners_of r vs

-- the words are the cut of a state that a run can come to, what each seat knows is true, and each rank has one owner at
-- most. A seat that is spent owns no rank and knows nothing
pub record IsKeptBoard {S : Type 0} (plan : Scripts) (s : State S (List Hold)) : Type 0 where
  pub cut : IsReachedCut (plan_of plan) s.words
  pub fits : (seat : ℕ) (v : List Hold) → get_elem? s.views seat ≡ some v → Each (HoldFits plan s.words) v
  pub apart : (r : ℕ) → owners_of r s.views ≤ 1

-- n ranks from r on, of each of which no event is known to be done
abbrev pub holds_from : Scripts → ℕ → ℕ → List Hold
holds_from plan r zero = []
holds_from plan r (suc n) = hold plan r (replicate (procs_of plan) 0) ∷ holds_from plan (suc r) n

-- the first seat owns each rank
abbrev pub opening_view : Scripts → List Hold
opening_view plan = holds_from plan 0 (procs_of plan)

-- n events of k are known to be done
abbrev pub learn : ℕ → ℕ → Hold → Hold
learn k n h = hold h.plan h.rank (slice_set h.known k n)

-- what is found is known from now on, is no less than was known, and is the place at the word of an own rank
abbrev pub Learns : {S : Type 0} → Step S → Me S (List Hold) → ℕ → Me S (List Hold) → Type 0
Learns s m found n = (n ≡ (map (learn s.word found) m.0, m.1))
    × Each (λ (h : Hold). (slice_index h.known s.word ≤ found) × (s.word ≡ h.rank → found ≡ slice_index h.known s.word)) m.0

-- a store moves the word of a rank that the seat owns, one up from the place there; what is stored is known from now on
abbrev pub Stored : {S : Type 0} → Step S → Me S (List Hold) → ℕ → Me S (List Hold) → Type 0
Stored s m stored n = (n ≡ (map (learn s.word stored) m.0, m.1)) × (0 < count_of s.word m.0)
    × Each (λ (h : Hold). s.word ≡ h.rank → stored ≡ slice_index h.known h.rank + 1) m.0

-- the next event of the owner's rank
abbrev pub next_in : Hold → Event
next_in h = record { proc = h.rank; at = slice_index h.known h.rank }

-- the owner of the rank knows that its next event can happen
pub record ShowsNextIn (plan : Plan) (h : Hold) : Type 0 where
  pub next : slice_index h.known h.rank < event_count plan h.rank
  pub sources : ShowsSources plan h.known (next_in h)
  pub comes : ¬ (HasFate plan (next_in h) Waits)

-- what the owner of the rank knows implies that its next event can happen
pub record ImpliesNextIn (plan : Plan) (h : Hold) : Type 0 where
  pub next : slice_index h.known h.rank < event_count plan h.rank
  pub sources : ImpliesSources plan h.known (next_in h)
  pub comes : ¬ (HasFate plan (next_in h) Waits)

-- the scripts of which a seat with these ranks was made
abbrev pub scripts_in : List Hold → Scripts
scripts_in [] = no_scripts
scripts_in (h ∷ hs) = h.plan
