-- A few placings tell with which statuses a get-now is answered on all nodes.
use Rattle.std.specs.Prelude.{◌≡◌, ◌<◌, ◌⊎◌, ℕ, Bool, true, false, List, [], ◌∷◌, Option, Some, length, slice_get, slice_index_or}
use Rattle.wire_types.specs.declared.Call.{Call}
use Rattle.wire_types.specs.declared.Call.TheVariants.{GetNow}
use Rattle.wire_types.specs.declared.CallEnd.TheVariants.{Replied}
use Rattle.wire_types.specs.declared.Reply.{Reply}
use Rattle.wire_types.specs.declared.Status.{Status}
use Rattle.wire_types.specs.declared.Status.TheVariants.{Success, NotFound, ExistsOutsideScope}
use Rattle.wire_runs.specs.Placings.{IsSettledAnywhere}
use Rattle.wire_runs.specs.PlacingLaws.{IsOneANode}
use Rattle.wire_scripts.specs.Scripts.{Scripts, call_at}
use Rattle.wire_scripts.specs.Planned.{plan_of}
use Rattle.wire_scripts.specs.Placed.{moved, placed}
use Rattle.wire_core.specs.EndsAfter.{plain_ends}

-- whether there is a call, and it is a get-now
abbrev pub asks_now : Option Call → Bool
asks_now (Some (GetNow owner key)) = true
asks_now _ = false

-- the call of this number of the process is answered with this status in the plain run of the scripts
pub record IsAnsweredWith (scripts : Scripts) (process call : ℕ) (status : Status) : Type 0 where
  pub reply : Reply
  pub is : slice_get (slice_index_or (plain_ends scripts).rows process []) call ≡ Some (Replied reply)
  pub has : reply.status ≡ status

-- with all processes on one node it exists outside its scope, and with one of them on a node of its own and all others
-- on another it is answered with success
pub record IsFoundOutside (scripts : Scripts) (process call : ℕ) : Type 0 where
  pub outside : IsAnsweredWith (placed scripts []) process call ExistsOutsideScope
  pub rank : ℕ
  pub within : rank < length scripts.processes
  pub found : IsAnsweredWith (placed scripts (rank ∷ [])) process call Success

-- where nothing is found on any nodes, and each process has a node of its own: with whatever status a get-now is
-- answered on some nodes, it is answered there, or with all processes on one node; or the status is success, and it is
-- found outside its scope
abbrev pub FewPlacingsTell : Type 0
FewPlacingsTell = (s : Scripts) → IsSettledAnywhere (plan_of s) → IsOneANode (plan_of s)
    → (names : List (List ℕ)) (nodes : ℕ → ℕ)
    → (process call : ℕ) → asks_now (call_at s.processes process call) ≡ true → (status : Status)
    → IsAnsweredWith (moved s names nodes) process call status
    → IsAnsweredWith s process call status ⊎ (IsAnsweredWith (placed s []) process call status
    ⊎ ((status ≡ Success) × IsFoundOutside s process call))

abbrev pub IsOfThree : Status → Type 0
IsOfThree status = (status ≡ Success) ⊎ ((status ≡ NotFound) ⊎ (status ≡ ExistsOutsideScope))

-- and it is one of three statuses
abbrev pub ThreeStatuses : Type 0
ThreeStatuses = (s : Scripts) → IsSettledAnywhere (plan_of s) → (names : List (List ℕ)) (nodes : ℕ → ℕ)
    → (process call : ℕ) → asks_now (call_at s.processes process call) ≡ true → (status : Status)
    → IsAnsweredWith (moved s names nodes) process call status → IsOfThree status
