-- What a get sees (PMIx Standard 5.0: PMIx_Get, Scope of Put Data, PMIX_COLLECT_DATA).
use Rattle.std.specs.Prelude.{ℕ, zero, suc, List, Bool, true, false, ◌&&◌, Option, Some, None, ◌==◌, nat_le, slice_get}
use Rattle.std.specs.Prelude.{if◌then◌else◌}
use Rattle.wire_runs.specs.Plan.{Plan, Kind, Arrive, Get, kind_at, event_count, process_count, node_of, same_node}
use Rattle.wire_runs.specs.Plan.{admits}
use Rattle.wire_runs.specs.State.{Answer, Value, State}
use Rattle.wire_runs.specs.Puts.{own, stored, scope_of}
use Rattle.wire_runs.specs.Fences.{arrivals, is_member, is_complete, is_collecting, has_node}

-- nothing, where a get waits and a get-now replies PMIX_ERR_NOT_FOUND; something that isn't for the reader's node,
-- where both reply PMIX_ERR_EXISTS_OUTSIDE_SCOPE; or the value of the owner's put of this number
pub data Sight : Type 0 where
  Nothing : Sight
  Outside : Sight
  Shown : (put : ℕ) → Sight

-- a put that is shown whatever its scope: one's own, or one that was brought
abbrev pub held : Option ℕ → Sight
held None = Nothing
held (Some put) = Shown put

-- what the owner's server shows
abbrev pub served : Plan → ℕ → Bool → Option ℕ → Sight
served plan p same None = Nothing
served plan p same (Some put) = if admits (scope_of plan p put) same then Shown put else Outside

-- a put that is for other nodes
abbrev pub for_others : Plan → ℕ → Option ℕ → Option ℕ
for_others plan p None = None
for_others plan p (Some put) = if admits (scope_of plan p put) false then Some put else None

-- whether in this cut the j-th fence over these members has brought p's data to the node: it is complete, it collects,
-- p is a member and so is a process of the node
abbrev pub has_brought : Plan → (ℕ → ℕ) → ℕ → ℕ → List ℕ → ℕ → Bool
has_brought plan cut p node members j =
    is_complete plan cut members j && (is_collecting plan members j && (is_member members p && has_node plan members node))

abbrev pub stored_at_with : Bool → Option ℕ → Option ℕ → Option ℕ
stored_at_with true here before = here
stored_at_with false here before = before

abbrev pub delivered_with : Plan → (ℕ → ℕ) → ℕ → ℕ → ℕ → ℕ → Option ℕ → Option Kind → Option ℕ
delivered_with plan cut p node key n before (Some (Arrive members collect)) =
    stored_at_with (has_brought plan cut p node members (arrivals plan p members (suc n))) (stored plan p key n) before
delivered_with plan cut p node key n before _ = before

-- what p had stored under the key at its last arrival, among its first n events, at a fence that has brought p's data
-- to the node; the law `delivered_by_last` says so by the arrival's number
abbrev pub delivered : Plan → (ℕ → ℕ) → ℕ → ℕ → ℕ → ℕ → Option ℕ
delivered plan cut p node key zero = None
delivered plan cut p node key (suc n) =
    delivered_with plan cut p node key n (delivered plan cut p node key n) (kind_at plan p n)

-- what a get by q, its event number i, sees of p's key
abbrev pub get_sees : Plan → (ℕ → ℕ) → ℕ → ℕ → ℕ → ℕ → Sight
get_sees plan cut q i p key =
    if q == p then held (own plan p key i) else served plan p (same_node plan p q) (stored plan p key (cut p))

-- the greater of two numbers
abbrev pub greater : Option ℕ → Option ℕ → Option ℕ
greater o None = o
greater None (Some b) = Some b
greater (Some a) (Some b) = if nat_le a b then Some b else Some a

-- the greatest of the first n
abbrev pub greatest : (ℕ → Option ℕ) → ℕ → Option ℕ
greatest f zero = None
greatest f (suc n) = greater (greatest f n) (f n)

abbrev pub got_with : ℕ → ℕ → Option Kind → Option Answer → Option ℕ
got_with p key (Some (Get owner k)) (Some (Value put)) = if owner == p && (k == key) then Some put.at else None
got_with p key _ _ = None

-- the number of the put whose value m's event number i, a get of p's key, has got
abbrev pub got : Plan → State → ℕ → ℕ → ℕ → ℕ → Option ℕ
got plan s p key m i = got_with p key (kind_at plan m i) (slice_get (s.replies m) i)

-- the last of p's puts of the key whose value a get by m has got so far, where m is a process of the node
abbrev pub got_on : Plan → State → ℕ → ℕ → ℕ → ℕ → Option ℕ
got_on plan s p key node m = if node_of plan m == node then greatest (got plan s p key m) (s.done m) else None

-- the last of p's puts of the key that gets have brought to the node, where the plan keeps what gets bring
abbrev pub kept : Plan → State → ℕ → ℕ → ℕ → Option ℕ
kept plan s p key node = if plan.keep then greatest (got_on plan s p key node) (process_count plan) else None

-- the last of p's puts of the key that have come to the node: what p had stored under the key at its last arrival that
-- brought its data to the node, where that put is for other nodes, and what is kept there of gets
abbrev pub brought : Plan → State → ℕ → ℕ → ℕ → Option ℕ
brought plan s p key node =
    greater (for_others plan p (delivered plan s.done p node key (event_count plan p))) (kept plan s p key node)

-- what a get-now by q, its event number i, sees of p's key
abbrev pub get_now_sees : Plan → State → ℕ → ℕ → ℕ → ℕ → Sight
get_now_sees plan s q i p key =
    if q == p then held (own plan p key i)
    else if same_node plan p q then served plan p true (stored plan p key (s.done p))
    else held (brought plan s p key (node_of plan q))
