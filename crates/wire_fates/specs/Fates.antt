-- What the fate of an event tells, as the code has it.
use Rattle.std.specs.Prelude.{◌≡◌, ◌≢◌, ◌↔◌, List, [], ◌∷◌, true, Some, slice_get}
use Rattle.wire_types.specs.declared.Reply.{Reply}
use Rattle.wire_runs.specs.Plan.{Plan, Event}
use Rattle.wire_runs.specs.State.{Answer, State, IsDone}
use Rattle.wire_runs.specs.Step.{is_enabled, IsReachable}
use Rattle.wire_runs.specs.Order.{Edge}
use Rattle.wire_runs.specs.Ends.{given}
use Rattle.wire_runs.specs.Fate.{Fate, Waits, Says, HasFate}
use Rattle.wire_fates.specs.declared.fate.Fate.{Fate as Told}
use Rattle.wire_fates.specs.declared.fate.Fate.TheVariants as told

-- the one reply, or silence
abbrev pub told_by : List Reply → Told
told_by [] = told.Silent
told_by (reply ∷ replies) = told.Says reply

-- what an answer of the definition tells
abbrev pub answer_told : Plan → Answer → Told
answer_told plan answer = told_by (given plan answer)

-- what a fate of the definition tells
abbrev pub fate_told : Plan → Fate → Told
fate_told plan Waits = told.Waits
fate_told plan (Says answer) = answer_told plan answer

-- it tells the fate of y
pub record IsFateOf (plan : Plan) (y : Event) (found : Told) : Type 0 where
  pub fate : Fate
  pub has : HasFate plan y fate
  pub is : found ≡ fate_told plan fate

-- in a state that a run can reach, what was answered to y is its fate
abbrev pub TellsReply : Plan → Event → Told → Type 0
TellsReply plan y found = (s : State) (answer : Answer) → IsReachable plan s → slice_get (s.replies y.proc) y.at ≡ Some answer → found ≡ answer_told plan answer

-- in a state that a run can reach and in which y is the next event of its process, the process is enabled exactly where
-- the sources of y are done and its fate isn't to wait
abbrev pub TellsEnabled : Plan → Event → Told → Type 0
TellsEnabled plan y found =
    (s : State) → IsReachable plan s → s.done y.proc ≡ y.at →
    (is_enabled plan s y.proc ≡ true) ↔ (((x : Event) → Edge plan x y → IsDone s x) × (found ≢ told.Waits))
