-- The fences as calls are read, one call after the other: for the contracts of private functions. FenceTable says what
-- a fence is.
use Rattle.std.specs.Prelude.{◌≡◌, ◌⊎◌, ℕ, suc, ◌+◌, ◌-◌, ◌<◌, ◌≤◌, List, [], ◌∷◌, ◌++◌, Bool, true, ◌&&◌, ◌==◌, Option}
use Rattle.std.specs.Prelude.{Some, None, length, map, take, set}
use Rattle.std.specs.Prelude.{count_by, nat_le, nat_lt, slice_get, slice_index_or, if◌then◌else◌}
use Rattle.std.specs.List.{list_all}
use Rattle.wire_types.specs.declared.Call.{Call}
use Rattle.wire_types.specs.declared.Call.TheVariants.{Fence}
use Rattle.wire_scripts.specs.Scripts.{Process, Scripts, calls_in, set_at}
use Rattle.wire_fence.specs.declared.register.FenceDraft.{FenceDraft}
use Rattle.wire_fence.specs.declared.register.Register.{Register}
use Rattle.wire_fence.specs.FenceTable.{FenceInfo, fence_count, written_calls}
use Rattle.wire_fence.specs.Reading.{says_to}

-- the fence that a row is of, once all calls are read
abbrev pub info_of : List (List ℕ) → FenceDraft → FenceInfo
info_of sets row = record {
  set = row.set;
  nth = row.nth;
  members = set_at sets row.set;
  full = row.missing == 0;
  collects = row.collects;
}

abbrev pub key_of : FenceDraft → ℕ × ℕ
key_of row = (row.set, row.nth)

-- the register finds each of its rows by its key
abbrev pub IsKeyed : Register → Type 0
IsKeyed register = register.keys.keys ≡ map key_of register.rows.items

-- the row after one more call
abbrev pub called : Bool → FenceDraft → FenceDraft
called collect row = record row { missing = row.missing - 1; collects = row.collects && collect }

-- the row of this number is that of the nth fence over the set
pub record HasRow (rows : List FenceDraft) (number set nth : ℕ) : Type 0 where
  pub row : FenceDraft
  pub there : slice_get rows number ≡ Some row
  pub of_set : row.set ≡ set
  pub is_nth : row.nth ≡ nth

-- the rows after one more call of the nth fence over a set of so many members, and the number of its row
pub data IsCalled (rows : List FenceDraft) (set_of_call nth members : ℕ) (collect : Bool) (number : ℕ) (new : List FenceDraft) : Type 0 where
  Again : (row : FenceDraft) → slice_get rows number ≡ Some row → row.set ≡ set_of_call → row.nth ≡ nth → new ≡ set rows number (called collect row) →
      IsCalled rows set_of_call nth members collect number new
  First : number ≡ length rows → ((m : ℕ) → HasRow rows m set_of_call nth → ⊥) → new ≡ rows
      ++ called collect (record { set = set_of_call; nth = nth; missing = members; collects = true }) ∷ [] →
      IsCalled rows set_of_call nth members collect number new

-- what one more call does to the rows and to the process's counts of fence calls by set, and the number that it gets
abbrev pub IsAfter : List (List ℕ) → Call → List FenceDraft → List ℕ → Option ℕ → List FenceDraft → List ℕ → Type 0
IsAfter sets (Fence other collect) rows counts number new now =
    (n : ℕ) × (number ≡ Some n) × IsCalled rows other (slice_index_or counts other 0 + 1) (length (set_at sets other)) collect n new
    × (now ≡ set counts other (slice_index_or counts other 0 + 1))
IsAfter sets _ rows counts number new now = (number ≡ None) × (new ≡ rows) × (now ≡ counts)

-- how many of a process's calls are read
abbrev pub read_count : Scripts → (ℕ → ℕ) → ℕ → ℕ → ℕ
read_count s read m set_of_call = fence_count set_of_call (take (read m) (written_calls s m))

-- the row tells of the calls that are read, so many of each process
pub record TellsOfRead (s : Scripts) (read : ℕ → ℕ) (row : FenceDraft) : Type 0 where
  pub of_set : row.set < length s.sets
  pub from_one : 0 < row.nth
  pub missing : row.missing + count_by (λ m. nat_le row.nth (read_count s read m row.set)) (set_at s.sets row.set) ≡ length (set_at s.sets row.set)
  pub collects : row.collects ≡ list_all (λ m. says_to row.set row.nth (written_calls s m) (read m)) (set_at s.sets row.set)

-- the rows are those of the fences that are read, each once
pub record AreRead (s : Scripts) (read : ℕ → ℕ) (rows : List FenceDraft) : Type 0 where
  pub each : (number : ℕ) (row : FenceDraft) → slice_get rows number ≡ Some row → TellsOfRead s read row
  pub once : (m n set nth : ℕ) → HasRow rows m set nth → HasRow rows n set nth → m ≡ n
  pub there : (m set nth : ℕ) → set < length s.sets → 0 < nth → nth ≤ read_count s read m set → (number : ℕ) × HasRow rows number set nth

-- the number that a call got
abbrev pub IsNumber : List FenceDraft → List Call → ℕ → Option Call → Option ℕ → Type 0
IsNumber rows calls c (Some (Fence other collect)) number = (n : ℕ) × (number ≡ Some n) × HasRow rows n other (fence_count other (take (suc c) calls))
IsNumber rows calls c _ number = number ≡ None

-- the numbers of the first calls of a process
pub record AreNumbers (rows : List FenceDraft) (calls : List Call) (numbers : List (Option ℕ)) (n : ℕ) : Type 0 where
  pub count : length numbers ≡ n
  pub each : (c : ℕ) → c < n → IsNumber rows calls c (slice_get calls c) (slice_index_or numbers c None)

-- how numbers are packed, for the contracts of private functions: what is kept of a call is the number of its fence, or
-- 2 ^ 32 - 1, which no fence has
abbrev pub number_kept : ℕ → Option ℕ
number_kept kept = if kept == 4294967295 then None else Some kept

-- of packed numbers, for the contracts of private functions: the last of the first n of these is that of no fence
abbrev pub EndsBare : List ℕ → ℕ → Type 0
EndsBare kept n = (0 < n) × (slice_index_or kept (n - 1) 0 ≡ 4294967295)

-- the numbers of the calls of a process, up to its last fence call or further
abbrev pub AreNumbersOf : List FenceDraft → List Call → List (Option ℕ) → Type 0
AreNumbersOf rows calls numbers = (c : ℕ) → IsNumber rows calls c (slice_get calls c) (slice_index_or numbers c None)

-- the numbers of all calls of the first processes
pub record AreAllNumbers (rows : List FenceDraft) (processes : List Process) (numbers : List (List (Option ℕ))) (n : ℕ) : Type 0 where
  pub count : length numbers ≡ n
  pub each : (p : ℕ) → p < n → AreNumbersOf rows (calls_in (slice_get processes p)) (slice_index_or numbers p [])

-- all calls of the first processes
abbrev pub read_to : Scripts → ℕ → ℕ → ℕ
read_to s n m = if nat_lt m n then length (written_calls s m) else 0

-- the counts with those of the sets of the first n calls set back to 0: each is 0, or as it was where none of these
-- calls is over its set
pub record AreForgotten (old : List ℕ) (calls : List Call) (n : ℕ) (new : List ℕ) : Type 0 where
  pub len : length new ≡ length old
  pub each : (k : ℕ) → (slice_index_or new k 0 ≡ 0) ⊎ ((slice_index_or new k 0 ≡ slice_index_or old k 0) × (fence_count k (take n calls) ≡ 0))
