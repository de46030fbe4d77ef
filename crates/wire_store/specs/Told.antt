-- What a store tells, against the puts and commits that it was told of.
use Rattle.std.specs.Prelude.{◌≡◌, ℕ, ◌≤◌, Bool, false, Option, Some, None, option_map, if◌then◌else◌}
use Rattle.wire_runs.specs.Plan.{Kind, admits}
use Rattle.wire_runs.specs.Puts.{own_put, stored_put, scope_in}
use Rattle.wire_types.specs.declared.CallAt.{CallAt}
use Rattle.wire_store.specs.declared.seen.Seen.{Seen}
use Rattle.wire_store.specs.declared.seen.Seen.TheVariants.{Value, Outside, Nothing}
use Rattle.wire_store.specs.Kept.{Kept, last_put, last_stored, last_stored_before, seen, kept_after}

-- the store was told of the puts and commits among a process's first n events: `kind_of` says what each event of the
-- process is, and `call_of` of which call it is. Events of other kinds change nothing: `kept_after` stays the same.
abbrev pub IsToldOf : Kept → (ℕ → Option Kind) → (ℕ → CallAt) → ℕ → Type 0
IsToldOf store kind_of call_of n = store.puts ≡ kept_after kind_of call_of n

-- what the put of this event number shows to a process that is, or isn't, on the owner's node
abbrev pub seen_put : (ℕ → Option Kind) → (ℕ → CallAt) → Bool → Option ℕ → Seen
seen_put kind_of call_of same None = Nothing
seen_put kind_of call_of same (Some i) = if admits (scope_in (kind_of i)) same then Value (call_of i) else Outside

-- the owner sees its last put of the key, and others see its last put that a commit follows; and processes of other
-- nodes are shown what was so before any event that came
pub record TellsPuts (kind_of : ℕ → Option Kind) (call_of : ℕ → CallAt) (key n : ℕ) : Type 0 where
  pub own : option_map (λ put. put.call) (last_put key (kept_after kind_of call_of n)) ≡ option_map call_of (own_put kind_of key n)
  pub others : (same : Bool) → seen same (last_stored key (kept_after kind_of call_of n)) ≡ seen_put kind_of call_of same (stored_put kind_of key n)
  pub before : (a : ℕ) → a ≤ n → seen false (last_stored_before key a (kept_after kind_of call_of n)) ≡ seen_put kind_of call_of false
      (stored_put kind_of key a)

abbrev pub StoreTells : Type 0
StoreTells = (kind_of : ℕ → Option Kind) (call_of : ℕ → CallAt) (key n : ℕ) → TellsPuts kind_of call_of key n
