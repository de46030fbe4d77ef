-- What each event of a plan has to keep for a library, on the plan's nodes or wherever its processes are: for the contracts
-- of private functions.
use Rattle.std.specs.Prelude.{◌≡◌, ◌≢◌, ℕ, List, Bool, true, false, not, ◌||◌, Option, Some}
use Rattle.wire_scripts.specs.Scripts.{Scripts}
use Rattle.wire_scripts.specs.Planned.{plan_of}
use Rattle.wire_runs.specs.Plan.{Plan, Event, Get, kind, same_node}
use Rattle.wire_library_laws.specs.Library.{Words}
use Rattle.wire_library_laws.specs.Portable.{IsAsked, IsPortableNear, IsPortableFar, AreMates}
use Rattle.wire_portable.specs.declared.fences.SetTable.{SetTable}
use Rattle.wire_portable.specs.declared.libraries.Library.{Library}
use Rattle.wire_spelling.specs.declared.spelling.Spelt.{Spelt}
use Rattle.wire_portable.specs.Gets.{place_in}
use Rattle.wire_portable.specs.Judging.{NoRewrites}
use Rattle.wire_portable.specs.Libraries.{family_of}
use Rattle.wire_portable.specs.Words.{words_of}

-- what is searched: scripts, how the calls of their fences spell their sets, what is known of the sets, and whether the
-- plan is judged wherever its processes are
pub record Searched : Type 0 where
  pub scripts : Scripts
  pub rows : List (List (Option Spelt))
  pub sets : SetTable
  pub anywhere : Bool

abbrev pub plan_in : Searched → Plan
plan_in v = plan_of v.scripts

abbrev pub words_in : Searched → Library → Words
words_in v library = words_of library v.scripts v.rows

-- q may be on p's node (near), or on another
abbrev pub MayBe : Bool → Plan → Bool → ℕ → ℕ → Type 0
MayBe anywhere plan near p q = anywhere ≡ false → same_node plan p q ≡ near

-- whether it may
abbrev pub may_be : Bool → Plan → Bool → ℕ → ℕ → Bool
may_be anywhere plan true p q = anywhere || same_node plan p q
may_be anywhere plan false p q = anywhere || not (same_node plan p q)

-- no get of one of p's keys, made where g is made, may answer g too early
abbrev pub HasNoMate : Bool → Library → Plan → ℕ → ℕ → Event → Type 0
HasNoMate anywhere library plan p key g =
    (h : Event) (other_key : ℕ) → kind plan h ≡ Some (Get p other_key) → h.proc ≢ p → IsAsked plan h → g.proc ≢ h.proc
    → place_in anywhere plan h.proc ≡ place_in anywhere plan g.proc → AreMates (family_of library) plan p key other_key g h

-- what a get of p's key, another process's, has to keep on p's node, and on another
abbrev pub IsNearFine : Library → Plan → ℕ → ℕ → Event → Type 0
IsNearFine library plan p key g = NoRewrites plan → IsPortableNear (family_of library) plan p key g

pub record IsFarFine (anywhere : Bool) (library : Library) (plan : Plan) (p key : ℕ) (g : Event) : Type 0 where
  pub alone : NoRewrites plan → IsPortableFar (family_of library) plan p key g
  pub beside : HasNoMate anywhere library plan p key g

-- both, where its process may be there
pub record IsGetFine (anywhere : Bool) (library : Library) (plan : Plan) (p key : ℕ) (g : Event) : Type 0 where
  pub near : MayBe anywhere plan true p g.proc → IsNearFine library plan p key g
  pub far : MayBe anywhere plan false p g.proc → IsFarFine anywhere library plan p key g
