-- Other numbers for keys and names say nothing, in both directions; and so a plan that is settled on all nodes tells of
-- each plan with its calls under other numbers.
use Rattle.std.specs.Prelude.{◌≡◌, ◌↔◌, ℕ, List, map}
use Rattle.wire_runs.specs.Plan.{Plan, Process, Call, CallPut, CallCommit, CallFence, CallGet, CallGetNow}
use Rattle.wire_runs.specs.Plan.{CallPublish, CallLookup, CallLookupWait, CallUnpublish, CallUnpublishAll, CallFixed}
use Rattle.wire_runs.specs.Plan.{kinds_of}
use Rattle.wire_runs.specs.Races.{IsSettled}
use Rattle.wire_runs.specs.Embeddings.{image_kind, IsKeyOf, IsNameOf}
use Rattle.wire_runs.specs.Renamed.{renumbering, IsRenumbered}
use Rattle.wire_runs.specs.Placings.{IsPlacing}

-- the numbers lead back
abbrev pub RenumberingTurns : Type 0
RenumberingTurns = (plan other : Plan) (key name : ℕ → ℕ) → IsRenumbered plan other key name
    → (key_back : ℕ → ℕ) × (name_back : ℕ → ℕ) × IsRenumbered other plan key_back name_back

-- both plans are settled, or neither is
abbrev pub RenumberedBoth : Type 0
RenumberedBoth = (plan other : Plan) (key name : ℕ → ℕ) → IsRenumbered plan other key name
    → (IsSettled plan ↔ IsSettled other)

-- a call, a process, a plan under other numbers
abbrev pub renumbered_call : (key name : ℕ → ℕ) → Call → Call
renumbered_call key name (CallPut k scope) = CallPut (key k) scope
renumbered_call key name CallCommit = CallCommit
renumbered_call key name (CallFence members collect) = CallFence members collect
renumbered_call key name (CallGet owner k) = CallGet owner (key k)
renumbered_call key name (CallGetNow owner k) = CallGetNow owner (key k)
renumbered_call key name (CallPublish n) = CallPublish (name n)
renumbered_call key name (CallLookup n) = CallLookup (name n)
renumbered_call key name (CallLookupWait n) = CallLookupWait (name n)
renumbered_call key name (CallUnpublish n) = CallUnpublish (name n)
renumbered_call key name CallUnpublishAll = CallUnpublishAll
renumbered_call key name (CallFixed reply) = CallFixed reply

abbrev pub renumbered_process : (key name : ℕ → ℕ) → Process → Process
renumbered_process key name process =
    record { node = process.node; calls = map (renumbered_call key name) process.calls }

abbrev pub renumbered : (key name : ℕ → ℕ) → Plan → Plan
renumbered key name plan = record { processes = map (renumbered_process key name) plan.processes; keep = plan.keep }

-- the events of calls under other numbers are the events of the calls, under these numbers
abbrev pub RenumberedKinds : Type 0
RenumberedKinds = (key name : ℕ → ℕ) (calls : List Call) → kinds_of (map (renumbered_call key name) calls)
    ≡ map (image_kind (renumbering key name)) (kinds_of calls)

-- no two keys, and no two names, that the plan uses have one number
pub record StayApart (plan : Plan) (key name : ℕ → ℕ) : Type 0 where
  pub keys : (a b : ℕ) → IsKeyOf plan a → IsKeyOf plan b → key a ≡ key b → a ≡ b
  pub names : (a b : ℕ) → IsNameOf plan a → IsNameOf plan b → name a ≡ name b → a ≡ b

abbrev pub RenumberedIs : Type 0
RenumberedIs = (plan : Plan) (key name : ℕ → ℕ) → StayApart plan key name
    → IsRenumbered plan (renumbered key name plan) key name

-- where a plan is settled on all nodes, so is each plan that has, under other numbers, the calls of one of its placings
abbrev pub SettledByPlacing : Type 0
SettledByPlacing = (plan other own : Plan) (key name : ℕ → ℕ)
    → ((placing : Plan) → IsPlacing plan placing → IsSettled placing) → IsPlacing plan other
    → IsRenumbered own other key name → IsSettled own
