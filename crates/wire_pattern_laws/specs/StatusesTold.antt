-- With which statuses a get-now can be answered, on whatever nodes: told by the order of the plan's calls.
use Rattle.std.specs.Prelude.{◌≡◌, ◌≢◌, ◌↔◌, ℕ, true, Some, is_some}
use Rattle.wire_types.specs.declared.Status.{Status}
use Rattle.wire_types.specs.declared.Status.TheVariants as status
use Rattle.wire_runs.specs.Plan.{Plan, Event, GetNow, kind, event_count, admits}
use Rattle.wire_runs.specs.Puts.{own, stored, scope_of}
use Rattle.wire_runs.specs.Order.{Stores, Live, Before}
use Rattle.wire_runs.specs.Laws.{HappensBefore}
use Rattle.wire_runs.specs.Renamed.{IsRenumbered}
use Rattle.wire_runs.specs.Placings.{IsPlacing, HasSurely, IsSettledAnywhere}
use Rattle.wire_pattern_laws.specs.Finds.{found_status, shown_status, event_in, Finds}

-- a get-now of the own process's key finds it if it has been put. On the owner's node it finds what a commit before it
-- stores, if there is one. Elsewhere it finds the key if its process, or another on its node, surely has it; and it
-- finds nothing, if its process doesn't and is alone
pub data CanSay (plan : Plan) (get : Event) (owner key : ℕ) (found : Status) : Type 0 where
  Own : get.proc ≡ owner → found ≡ found_status (is_some (own plan owner key get.at)) → CanSay plan get owner key found
  Near : get.proc ≢ owner → (i put : ℕ) → Stores plan (event_in owner i) key → Before plan (event_in owner i) get
      → stored plan owner key (event_count plan owner) ≡ Some put
      → found ≡ shown_status (admits (scope_of plan owner put) true) → CanSay plan get owner key found
  NearNothing : get.proc ≢ owner
      → ((i : ℕ) → Stores plan (event_in owner i) key → ¬ (Before plan (event_in owner i) get))
      → found ≡ status.NotFound → CanSay plan get owner key found
  Far : get.proc ≢ owner → (m : ℕ) → HasSurely plan owner key m get → found ≡ status.Success
      → CanSay plan get owner key found
  FarNothing : get.proc ≢ owner → ¬ (HasSurely plan owner key get.proc get) → found ≡ status.NotFound
      → CanSay plan get owner key found

-- these are the statuses that it finds on some placing
abbrev pub StatusesTold : Type 0
StatusesTold = (plan : Plan) → IsSettledAnywhere plan → HappensBefore plan → (get : Event) (owner key : ℕ)
    → kind plan get ≡ Some (GetNow owner key) → Live plan get → (found : Status)
    → CanSay plan get owner key found ↔ ((other : Plan) × IsPlacing plan other × Finds other get owner key found)

-- numbers of keys and names say nothing of what is live, and of what a get-now finds
pub record FindsAlike (plan other : Plan) (get : Event) (owner key there : ℕ) : Type 0 where
  pub live : Live plan get ↔ Live other get
  pub finds : Live plan get → (found : Status) → Finds plan get owner key found ↔ Finds other get owner there found

abbrev pub RenumberedFinds : Type 0
RenumberedFinds = (plan other : Plan) (key name : ℕ → ℕ) → IsRenumbered plan other key name
    → (get : Event) (owner k : ℕ) → kind plan get ≡ Some (GetNow owner k) → FindsAlike plan other get owner k (key k)
