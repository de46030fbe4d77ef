-- A store to a word is a step of a run.
use Rattle.std.specs.Prelude.{◌≡◌, ℕ, ◌+◌, ◌<◌, true, List, length, slice_index, slice_set}
use Rattle.wire_runs.specs.Plan.{Plan}
use Rattle.wire_runs.specs.Step.{is_enabled, step}
use Rattle.wire_runs.specs.Races.{IsSettled}
use Rattle.wire_board.specs.Cuts.{IsReachedCut}

-- a store that raises the word of a rank by one, between words of a settled plan to which runs can come, is a step of
-- the rank: in the state of the words before it the rank is enabled, and its step leads to the state of the words after
-- it
abbrev pub StoresAreSteps : Type 0
StoresAreSteps =
    (plan : Plan) (words : List ℕ) (rank : ℕ) → IsSettled plan → rank < length words
    → (before : IsReachedCut plan words) → (after : IsReachedCut plan (slice_set words rank (slice_index words rank + 1)))
    → (is_enabled plan before.state rank ≡ true) × (step plan before.state rank ≡ after.state)
