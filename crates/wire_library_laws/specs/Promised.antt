-- What a library does on a portable plan.
use Rattle.std.specs.Prelude.{◌≡◌, ◌≢◌, ℕ, List, Some, slice_get}
use Rattle.wire_runs.specs.Plan.{Plan, Event, Publish, Unpublish, kind}
use Rattle.wire_runs.specs.State.{Duplicate, NotFound, start}
use Rattle.wire_runs.specs.Step.{IsInterleaving, run, IsEnd}
use Rattle.wire_runs.specs.PlainRun.{plain_run}
use Rattle.wire_runs.specs.Laws.{HasOneEnd, plain_end}
use Rattle.wire_runs.specs.Races.{IsSettled}
use Rattle.wire_library_laws.specs.Library.{Family, Words, Moment, told, completed, IsLibraryRun, IsLibraryEnd}
use Rattle.wire_library_laws.specs.Portable.{AreNamesFine, IsPortable}

-- the events that the library has answered, in that order, are an interleaving by the rules, with the same replies
pub record IsByRules (plan : Plan) (h : List Moment) : Type 0 where
  pub is_run : IsInterleaving plan start (completed h)
  pub same : run plan (completed h) ≡ told plan h

-- so it is in each run on a portable plan
abbrev pub Refines : Type 0
Refines = (family : Family) (words : Words) (plan : Plan) (h : List Moment) → IsPortable family words plan → IsLibraryRun family words plan h → IsByRules plan h

-- where a run can't go on, neither can that interleaving
abbrev pub EndsByRules : Type 0
EndsByRules =
    (family : Family) (words : Words) (plan : Plan) (h : List Moment) → IsPortable family words plan → IsLibraryRun family words plan h
    → IsLibraryEnd family words plan h → IsEnd plan (run plan (completed h))

-- if the plan has one end besides, each run that can't go on ends there: the same replies, and the same processes waiting
abbrev pub LibraryOneEnd : Type 0
LibraryOneEnd =
    (family : Family) (words : Words) (plan : Plan) (h : List Moment) → HasOneEnd plan → IsPortable family words plan → IsLibraryRun family words plan h
    → IsLibraryEnd family words plan h → told plan h ≡ run plan (plain_run plan)

-- in the plain run no publish is answered that the name exists, and no unpublish that it doesn't
pub record NoneRefused (plan : Plan) : Type 0 where
  pub publishes : (z : Event) (name : ℕ) → kind plan z ≡ Some (Publish name) → slice_get ((plain_end plan).replies z.proc) z.at ≢ Some Duplicate
  pub unpublishes : (z : Event) (name : ℕ) → kind plan z ≡ Some (Unpublish name) → slice_get ((plain_end plan).replies z.proc) z.at ≢ Some NotFound

-- in a settled plan that tells of all interleavings
abbrev pub NamesByReplies : Type 0
NamesByReplies = (plan : Plan) → IsSettled plan → NoneRefused plan → AreNamesFine plan

-- each name is published at most once, and none is taken away
pub record AreNamesPlain (plan : Plan) : Type 0 where
  pub once : (x y : Event) (name : ℕ) → kind plan x ≡ Some (Publish name) → kind plan y ≡ Some (Publish name) → x ≡ y
  pub stay : (y : Event) (name : ℕ) → kind plan y ≢ Some (Unpublish name)

-- that tells it of any plan
abbrev pub NamesOnce : Type 0
NamesOnce = (plan : Plan) → AreNamesPlain plan → AreNamesFine plan
