-- Placings: a plan with its processes on other nodes, and what is wrong with some placing of a plan.
use Rattle.std.specs.Prelude.{◌≡◌, ◌≢◌, ℕ, suc, ◌≤◌, List, [], ◌∷◌, true, ◌||◌, Some, ◌==◌, if◌then◌else◌, map}
use Rattle.wire_types.specs.Replies.{bare}
use Rattle.wire_types.specs.declared.Status.TheVariants as status
use Rattle.wire_runs.specs.Plan.{Plan, Process, Kind, Fixed, GetNow, kinds, kind, process_count, Event}
use Rattle.wire_runs.specs.Fences.{is_member}
use Rattle.wire_runs.specs.Order.{Live, Before}
use Rattle.wire_runs.specs.Races.{Delivery, ByFence, ByGet, IsOf, IsPutOnce, IsRewrite, IsNameRace, BringsAway}
use Rattle.wire_runs.specs.Races.{IsNearRace}

-- what an event does, the reply to a call of a reserved key or name forgotten: some of those replies tell of nodes
abbrev pub without_reply : Kind → Kind
without_reply (Fixed reply) = Fixed (bare status.Success)
without_reply kind = kind

-- other is a placing of plan: it has the same processes with the same calls, on whatever nodes, but for replies of
-- reserved keys and names
pub record IsPlacing (plan other : Plan) : Type 0 where
  pub same_keep : plan.keep ≡ other.keep
  pub same_count : process_count plan ≡ process_count other
  pub same_calls : (p : ℕ) → map without_reply (kinds plan p) ≡ map without_reply (kinds other p)

-- these processes, each on the node that belongs to its number
abbrev pub placed : (ℕ → ℕ) → List Process → List Process
placed nodes [] = []
placed nodes (process ∷ processes) = record { node = nodes 0; calls = process.calls } ∷ placed (λ p. nodes (suc p)) processes

-- the plan with its processes on these nodes
abbrev pub placing : Plan → (ℕ → ℕ) → Plan
placing plan nodes = record { processes = placed nodes plan.processes; keep = plan.keep }

-- a and b on a node of their own, all other processes on another
abbrev pub paired : Plan → ℕ → ℕ → Plan
paired plan a b = placing plan (λ p. if (p == a) || (p == b) then 1 else 0)

-- m is a member of the fence, or the process of the get
abbrev pub TakesPart : Delivery → ℕ → Type 0
TakesPart (ByFence members j) m = is_member members m ≡ true
TakesPart (ByGet get) m = get.proc ≡ m

-- the delivery brings p's key to the node of m, another process, unless that is p's own node; all its events are live
pub record Carries (plan : Plan) (p key m : ℕ) (delivery : Delivery) : Type 0 where
  pub another : m ≢ p
  pub takes_part : TakesPart delivery m
  pub brings_away : BringsAway plan p key delivery
  pub all_live : (z : Event) → IsOf plan delivery z → Live plan z

-- all events of some delivery of p's key to m are before the get
pub record HasSurely (plan : Plan) (p key m : ℕ) (get : Event) : Type 0 where
  pub delivery : Delivery
  pub carries : Carries plan p key m delivery
  pub all_before : (z : Event) → IsOf plan delivery z → Before plan z get

-- a live get-now, and the lowest event that isn't before it of a delivery to m; the get is before no event of that
-- delivery, and neither its own process nor m surely has the key: a race where these two have a node of their own
pub record IsFarRace (plan : Plan) (source get : Event) (owner key m : ℕ) : Type 0 where
  pub is : kind plan get ≡ Some (GetNow owner key)
  pub another : get.proc ≢ owner
  pub once : IsPutOnce plan owner key
  pub get_live : Live plan get
  pub reader_not_sure : ¬ (HasSurely plan owner key get.proc get)
  pub neighbour_not_sure : ¬ (HasSurely plan owner key m get)
  pub delivery : Delivery
  pub carries : Carries plan owner key m delivery
  pub before_none : (z : Event) → IsOf plan delivery z → ¬ (Before plan get z)
  pub of_it : IsOf plan delivery source
  pub not_before : ¬ (Before plan source get)
  pub first : (z : Event) → IsOf plan delivery z → ¬ (Before plan z get) → source.proc ≤ z.proc

-- there is nothing to find on any placing
pub record IsSettledAnywhere (plan : Plan) : Type 0 where
  pub no_rewrite : (x y : Event) → ¬ (IsRewrite plan x y)
  pub no_near_race : (x y : Event) (key : ℕ) → ¬ (IsNearRace plan x y key)
  pub no_far_race : (x y : Event) (owner key m : ℕ) → ¬ (IsFarRace plan x y owner key m)
  pub no_name_race : (x y : Event) (name : ℕ) → ¬ (IsNameRace plan x y name)
