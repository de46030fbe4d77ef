-- The entries of a trail are the replies of the plain run.
use Rattle.std.specs.Prelude.{◌≡◌, ℕ, ◌≤◌, List, Some, length, slice_get, slice_index}
use Rattle.wire_runs.specs.Plan.{Plan, Event}
use Rattle.wire_runs.specs.State.{Answer}
use Rattle.wire_runs.specs.Races.{IsSettled}
use Rattle.wire_runs.specs.Laws.{plain_end}
use Rattle.wire_fates.specs.declared.Fate.{Fate}
use Rattle.wire_fates.specs.Fates.{answer_told}
use Rattle.wire_board.specs.Cuts.{IsReachedCut}
use Rattle.wire_board.specs.Lanes.{AreFates}

-- it tells what the plain run replies to the event
abbrev pub IsPlainReply : Plan → Event → Fate → Type 0
IsPlainReply plan y found = (a : Answer) × (slice_get ((plain_end plan).replies y.proc) y.at ≡ Some a) × (found ≡ answer_told plan a)

-- where the words are the cut of a state that a run can come to: of a trail that has no more entries than its rank's
-- word says, each tells what the plain run replies to its event
abbrev pub TrailsArePlain : Type 0
TrailsArePlain =
    (plan : Plan) (words : List ℕ) (rank : ℕ) (trail : List Fate) → IsSettled plan → IsReachedCut plan words → AreFates plan rank trail
    → length trail ≤ slice_index words rank
    → (i : ℕ) (fate : Fate) → slice_get trail i ≡ Some fate → IsPlainReply plan (record { proc = rank; at = i }) fate
