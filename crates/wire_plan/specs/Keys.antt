-- What a process's script says of the keys that it puts: for the contracts of private functions.
use Rattle.std.specs.Prelude.{◌≡◌, ℕ, ◌+◌, ◌<◌, ◌≤◌, List, Option, Some, None, MatchOption, slice_get}
use Rattle.std.specs.BTreeMap.{is_at}
use Rattle.std.specs.Map.{lookup}
use Rattle.std.specs.Ordering.{nat_cmp}
use Rattle.wire_runs.specs.Plan.{Plan, Kind, Put, Commit, event_count}
use Rattle.wire_runs.specs.Puts.{count_puts, stored, put_count, scope_of}
use Rattle.wire_runs.specs.Order.{Stores}
use Rattle.wire_plan.specs.Index.{IsFirstPut}
use Rattle.wire_plan.specs.declared.key_rows.KeyRow.{KeyRow}
use Rattle.wire_plan.specs.declared.keys.KeyTable.{KeyTable}

-- the number of p's event that stores the key first, if one does
abbrev pub IsStore : Plan → ℕ → ℕ → Option ℕ → Type 0
IsStore plan p key store =
    MatchOption store (stored plan p key (event_count plan p) ≡ None) (λ at. Stores plan (record { proc = p; at = at }) key)

-- the row says how often p puts the key, by which event first and for whom, and which commit stores that put
pub record IsRowOf (plan : Plan) (p key : ℕ) (row : KeyRow) : Type 0 where
  pub puts : row.puts ≡ put_count plan p key (event_count plan p)
  pub positive : 0 < row.puts
  pub first : IsFirstPut plan (record { proc = p; at = row.first }) key
  pub scope : scope_of plan p row.first ≡ row.scope
  pub store : IsStore plan p key row.store

-- no row stands for a key that p never puts
abbrev pub IsKeyRow : Plan → ℕ → ℕ → Option KeyRow → Type 0
IsKeyRow plan p key row = MatchOption row (put_count plan p key (event_count plan p) ≡ 0) (λ r. IsRowOf plan p key r)

abbrev pub row_in : Option (List (ℕ × KeyRow)) → ℕ → Option KeyRow
row_in None key = None
row_in (Some rows) key = lookup (is_at (nat_cmp key)) rows

-- the row of a process's key
abbrev pub row_at : KeyTable → ℕ → ℕ → Option KeyRow
row_at table p key = row_in (slice_get table.rows.items p) key

-- each row of the table says what the plan says
abbrev pub AreKeysOf : Plan → KeyTable → Type 0
AreKeysOf plan table = (p key : ℕ) → IsKeyRow plan p key (row_at table p key)

-- how many puts a row tells of
abbrev pub puts_in : Option KeyRow → ℕ
puts_in None = 0
puts_in (Some row) = row.puts

-- the first commit among the events from one number up to another
abbrev pub IsNextCommit : (ℕ → Option Kind) → ℕ → ℕ → Option ℕ → Type 0
IsNextCommit events from end found =
    MatchOption found
    ((k : ℕ) → from ≤ k → k < end → events k ≡ Some Commit → ⊥)
    (λ c. (from ≤ c) × (c < end) × (events c ≡ Some Commit) × ((k : ℕ) → from ≤ k → k < c → events k ≡ Some Commit → ⊥))

-- the row tells of the puts of the key among the events from one number up to another
pub record IsRowFrom (events : ℕ → Option Kind) (key from end : ℕ) (row : KeyRow) : Type 0 where
  pub puts : count_puts events key end ≡ count_puts events key from + row.puts
  pub positive : 0 < row.puts
  pub is : events row.first ≡ Some (Put key row.scope)
  pub below : row.first < end
  pub first : count_puts events key row.first ≡ count_puts events key from
  pub store : IsNextCommit events row.first end row.store

-- the rows of all keys, and the first commit among these events
pub record AreRowsFrom (events : ℕ → Option Kind) (from end : ℕ) (rows : ℕ → Option KeyRow) (commit : Option ℕ) : Type 0 where
  pub each : (key : ℕ) → MatchOption (rows key) (count_puts events key end ≡ count_puts events key from) (λ row. IsRowFrom events key from end row)
  pub next : IsNextCommit events from end commit
