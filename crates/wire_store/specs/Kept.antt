-- What a store keeps of one process's puts and commits (PMIx Standard 5.0, Posting Key-Value Pairs).
-- A put is held until its process's next commit, which stores all puts that no commit has stored before.
use Rattle.std.specs.Prelude.{ℕ, zero, suc, List, [], ◌∷◌, ◌++◌, map, reverse, find, Bool, false, ◌&&◌, ◌==◌, nat_lt}
use Rattle.std.specs.Prelude.{is_some, Option, Some, None}
use Rattle.std.specs.Prelude.{if◌then◌else◌}
use Rattle.wire_runs.specs.Plan.{Kind, Put, Commit, admits}
use Rattle.wire_types.specs.declared.Scope.{Scope}
use Rattle.wire_types.specs.declared.CallAt.{CallAt}
use Rattle.wire_store.specs.declared.seen.Seen.{Seen}
use Rattle.wire_store.specs.declared.seen.Seen.TheVariants.{Value, Outside, Nothing}

-- a put that came: the number of its event, its key, its scope, its call, and the number of the commit that stored it
pub record KeptPut : Type 0 where
  pub at : ℕ
  pub key : ℕ
  pub scope : Scope
  pub call : CallAt
  pub stored_by : Option ℕ

-- the puts in order, and how many more there is room for
pub record Kept : Type 0 where
  pub puts : List KeptPut
  pub room : ℕ

-- the commit that stored a put, after one more commit
abbrev pub first_commit : Option ℕ → ℕ → Option ℕ
first_commit None at = Some at
first_commit (Some earlier) at = Some earlier

-- the put after the commit of this number, which stores it unless an earlier one has
abbrev pub store_by : ℕ → KeptPut → KeptPut
store_by at put = record put { stored_by = first_commit put.stored_by at }

-- the last put of the key
abbrev pub last_put : ℕ → List KeptPut → Option KeptPut
last_put key puts = find (λ put. put.key == key) (reverse puts)

-- the last put of the key that some commit stored
abbrev pub last_stored : ℕ → List KeptPut → Option KeptPut
last_stored key puts = find (λ put. put.key == key && is_some put.stored_by) (reverse puts)

-- whether a commit stored it before this event of the owner
abbrev pub is_stored_before : ℕ → Option ℕ → Bool
is_stored_before event None = false
is_stored_before event (Some commit) = nat_lt commit event

-- the last put of the key that some commit before this event stored
abbrev pub last_stored_before : ℕ → ℕ → List KeptPut → Option KeptPut
last_stored_before key event puts = find (λ put. put.key == key && is_stored_before event put.stored_by) (reverse puts)

-- what a put shows to a process that is, or isn't, on the owner's node
abbrev pub seen : Bool → Option KeptPut → Seen
seen same None = Nothing
seen same (Some put) = if admits put.scope same then Value put.call else Outside

-- the puts after event number n
abbrev pub kept_with : ℕ → CallAt → List KeptPut → Option Kind → List KeptPut
kept_with n call before (Some (Put key scope)) =
    before ++ record { at = n; key = key; scope = scope; call = call; stored_by = None } ∷ []
kept_with n call before (Some Commit) = map (store_by n) before
kept_with n call before _ = before

-- what a store keeps that is told of the puts and commits among the first n events: `kind_of` says what each event is,
-- and `call_of` of which call it is
abbrev pub kept_after : (ℕ → Option Kind) → (ℕ → CallAt) → ℕ → List KeptPut
kept_after kind_of call_of zero = []
kept_after kind_of call_of (suc n) = kept_with n (call_of n) (kept_after kind_of call_of n) (kind_of n)
