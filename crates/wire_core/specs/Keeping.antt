-- What gets have brought to nodes, where the plan keeps it: for the contracts of private functions.
use Rattle.std.specs.Prelude.{◌≡◌, ◌≢◌, ℕ, ◌+◌, ◌≤◌, ◌&&◌, Bool, true, false, ◌==◌, nat_lt, Option, Some, None}
use Rattle.std.specs.Prelude.{MatchOption, length, if◌then◌else◌}
use Rattle.std.specs.HashMap.{get, spare}
use Rattle.wire_runs.specs.Plan.{Plan, Get, event_total, node_of, admits}
use Rattle.wire_runs.specs.Puts.{scope_of}
use Rattle.wire_runs.specs.State.{State, next_kind}
use Rattle.wire_runs.specs.Sight.{Shown, get_sees, kept}
use Rattle.wire_core.specs.Met.{stored_at}
use Rattle.wire_core.specs.declared.keeping.Gain.{Gain}
use Rattle.wire_core.specs.declared.keeping.Keeping.{Keeping}

-- whether owner, key and node are the same
abbrev pub is_same : ℕ × ℕ × ℕ → ℕ × ℕ × ℕ → Bool
is_same a b = ((a.0 == b.0) && (a.1 == b.1)) && (a.2 == b.2)

-- how many events of p were done when a get last brought its key to the node
abbrev pub count_in : Keeping → ℕ → ℕ → ℕ → Option ℕ
count_in keeping p key node = get is_same keeping.counts (p, key, node)

-- the same after this was brought, by what it was before
abbrev pub count_after : Option Gain → ℕ → ℕ → ℕ → Option ℕ → Option ℕ
count_after None p key node before = before
count_after (Some gain) p key node before = if is_same (gain.owner.number, gain.key, gain.node) (p, key, node) then Some gain.done else before

-- q's next event is a get that brings this to its node, and the plan keeps it
pub record GetGains (plan : Plan) (s : State) (q : ℕ) (gain : Gain) : Type 0 where
  pub keeps : plan.keep ≡ true
  pub is : next_kind plan s q ≡ Some (Get gain.owner.number gain.key)
  pub put : ℕ
  pub sees : get_sees plan s.done q (s.done q) gain.owner.number gain.key ≡ Shown put
  pub there : gain.node ≡ node_of plan q
  pub count : gain.done ≡ s.done gain.owner.number

-- what is found is what q's next event brings, if it brings anything
abbrev pub IsGain : Plan → State → ℕ → Option Gain → Type 0
IsGain plan s q found =
    MatchOption found
    ((p key put : ℕ) → plan.keep ≡ true → next_kind plan s q ≡ Some (Get p key) → get_sees plan s.done q (s.done q) p key ≡ Shown put → ⊥)
    (λ gain. GetGains plan s q gain)

-- the table tells what is kept on each node of keys of other nodes' processes; there is room for what the events to
-- come may bring
pub record IsKeeping (plan : Plan) (s : State) (steps : ℕ) (keeping : Keeping) : Type 0 where
  pub told : (p key node : ℕ) → node_of plan p ≢ node → stored_at plan p key (count_in keeping p key node) ≡ kept plan s p key node
  pub done : (p key node n : ℕ) → count_in keeping p key node ≡ Some n → n ≤ s.done p
  pub admitted : (p key node u : ℕ) → node_of plan p ≢ node → kept plan s p key node ≡ Some u → admits (scope_of plan p u) false ≡ true
  pub lengths : (p : ℕ) → length (s.replies p) ≡ s.done p
  pub room : plan.keep ≡ true → event_total plan ≤ steps + spare keeping.counts

-- whether an arrival at a fence, where there is one, stands after so many events
abbrev pub is_later : Option ℕ → Option ℕ → Bool
is_later None count = false
is_later (Some at) None = true
is_later (Some at) (Some count) = nat_lt count at
