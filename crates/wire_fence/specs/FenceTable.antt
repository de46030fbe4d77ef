-- The fences of scripts (PMIx Standard 5.0, PMIx_Fence).
-- A fence is a set of processes and a number j: it is the j-th fence call of each member over that set.
use Rattle.std.specs.Prelude.{◌≡◌, ℕ, suc, ◌<◌, List, [], Bool, false, Option, Some, None, length, take, count_by}
use Rattle.std.specs.Prelude.{slice_get, slice_index_or, ◌==◌, ◌&&◌}
use Rattle.std.specs.List.{list_any}
use Rattle.wire_runs.specs.Fences.{is_full, is_collecting, has_node}
use Rattle.wire_types.specs.declared.Call.{Call}
use Rattle.wire_types.specs.declared.Call.TheVariants.{Fence}
use Rattle.wire_scripts.specs.Scripts.{Scripts, IsSound, calls_in, call_at, set_at}
use Rattle.wire_scripts.specs.Planned.{plan_of}

-- a fence: the number of its set, its number among the fences over that set, from 1, its members, whether each of them
-- calls it, and whether every call of it says collect. A member that doesn't call it has no say in the last, so a fence
-- collects only where it is full besides.
pub record FenceInfo : Type 0 where
  pub set : ℕ
  pub nth : ℕ
  pub members : List ℕ
  pub full : Bool
  pub collects : Bool

-- the fences by number; for each call of each process, up to its last fence call, the number of its fence, where it
-- is a fence call; and each set of processes, by its number, with each node that a member is on
pub record FenceTable : Type 0 where
  pub fences : List FenceInfo
  pub numbers : List (List (Option ℕ))
  pub reached : List (ℕ × ℕ)

-- the fence of a number
abbrev pub fence_at : FenceTable → ℕ → Option FenceInfo
fence_at table number = slice_get table.fences number

-- the number of the fence of a call
abbrev pub fence_number : FenceTable → ℕ → ℕ → Option ℕ
fence_number table p c = slice_index_or (slice_index_or table.numbers p []) c None

-- whether a set and a node are among these pairs
unfoldable pub is_noted : List (ℕ × ℕ) → ℕ → ℕ → Bool
is_noted pairs set node = list_any (λ (r : ℕ × ℕ). (set == r.0) && (node == r.1)) pairs

-- whether a member of a set is on the node
abbrev pub is_reached : FenceTable → ℕ → ℕ → Bool
is_reached table set node = is_noted table.reached set node

-- what a look at a fence tells, where it is there
abbrev pub members_in : Option FenceInfo → List ℕ
members_in None = []
members_in (Some fence) = fence.members

abbrev pub full_in : Option FenceInfo → Bool
full_in None = false
full_in (Some fence) = fence.full

abbrev pub collects_in : Option FenceInfo → Bool
collects_in None = false
collects_in (Some fence) = fence.collects

abbrev pub reaches_in : FenceTable → ℕ → Option FenceInfo → Bool
reaches_in table node None = false
reaches_in table node (Some fence) = is_reached table fence.set node

-- the j-th fence over a set of the scripts
abbrev pub fence_over : Scripts → ℕ → ℕ → FenceInfo
fence_over s set j = record {
  set = set;
  nth = j;
  members = set_at s.sets set;
  full = is_full (plan_of s) (set_at s.sets set) j;
  collects = is_collecting (plan_of s) (set_at s.sets set) j;
}

-- whether a call is a fence over the set of this number
abbrev pub is_over : ℕ → Call → Bool
is_over set (Fence other collect) = other == set
is_over set _ = false

-- how many of these calls are fences over the set
abbrev pub fence_count : ℕ → List Call → ℕ
fence_count set calls = count_by (is_over set) calls

abbrev pub written_calls : Scripts → ℕ → List Call
written_calls s p = calls_in (slice_get s.processes p)

-- the number is that of the fence of this call: the set of the call, and how many fences over it the process has called
-- up to this one
pub record IsFenceOf (s : Scripts) (table : FenceTable) (p c set : ℕ) : Type 0 where
  pub number : ℕ
  pub is : fence_number table p c ≡ Some number
  pub fence : fence_at table number ≡ Some (fence_over s set (fence_count set (take (suc c) (written_calls s p))))

-- the fence is one over a set of the scripts
pub record IsFence (s : Scripts) (fence : FenceInfo) : Type 0 where
  pub is : fence ≡ fence_over s fence.set fence.nth
  pub of_set : fence.set < length s.sets
  pub from_one : 0 < fence.nth

-- the table has each fence that a call of the scripts is part of, and each once
pub record AreFencesOf (s : Scripts) (table : FenceTable) : Type 0 where
  pub sound : IsSound s
  pub calls : (p c set : ℕ) (collect : Bool) → call_at s.processes p c ≡ Some (Fence set collect) → IsFenceOf s table p c set
  pub others : (p c number : ℕ) → fence_number table p c ≡ Some number → (set : ℕ) × (collect : Bool) × (call_at s.processes p c ≡ Some (Fence set collect))
  pub each : (number : ℕ) (fence : FenceInfo) → fence_at table number ≡ Some fence → IsFence s fence
  pub once : (m n : ℕ) (fence : FenceInfo) → fence_at table m ≡ Some fence → fence_at table n ≡ Some fence → m ≡ n
  pub nodes : (set node : ℕ) → is_reached table set node ≡ has_node (plan_of s) (set_at s.sets set) node
