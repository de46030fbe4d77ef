-- Who has arrived at the fences, in a cut: so many events of each process are done.
use Rattle.std.specs.Prelude.{◌≡◌, ℕ, suc, ◌+◌, ◌-◌, List, Bool, true, Some, length, count_by, nat_le, set}
use Rattle.std.specs.Prelude.{slice_index_or}
use Rattle.wire_runs.specs.Plan.{Arrive, kind_at}
use Rattle.wire_runs.specs.Fences.{arrivals, is_member}
use Rattle.wire_scripts.specs.Scripts.{Scripts}
use Rattle.wire_scripts.specs.Planned.{plan_of}
use Rattle.wire_fence.specs.FenceTable.{FenceInfo, FenceTable, fence_at}

-- how many of the members have arrived at the fence
abbrev pub arrived : Scripts → (ℕ → ℕ) → FenceInfo → ℕ
arrived s cut fence = count_by (λ m. nat_le fence.nth (arrivals (plan_of s) m fence.members (cut m))) fence.members

-- how many members of the fence of this number are missing
abbrev pub missing_at : List ℕ → ℕ → ℕ
missing_at missing number = slice_index_or missing number 0

-- one member fewer is missing at the fence
abbrev pub one_arrived : ℕ → List ℕ → List ℕ
one_arrived number missing = set missing number (missing_at missing number - 1)

-- the counts are of the members that haven't arrived in the cut
pub record TellsMissing (s : Scripts) (cut : ℕ → ℕ) (table : FenceTable) (missing : List ℕ) : Type 0 where
  pub count : length missing ≡ length table.fences
  pub each : (number : ℕ) (fence : FenceInfo) → fence_at table number ≡ Some fence → missing_at missing number + arrived s cut fence ≡ length fence.members

-- the next event of the process is its arrival at the fence of this number
pub record IsArriving (s : Scripts) (cut : ℕ → ℕ) (table : FenceTable) (number p : ℕ) : Type 0 where
  pub fence : FenceInfo
  pub there : fence_at table number ≡ Some fence
  pub collect : Bool
  pub event : kind_at (plan_of s) p (cut p) ≡ Some (Arrive fence.members collect)
  pub member : is_member fence.members p ≡ true
  pub nth : arrivals (plan_of s) p fence.members (suc (cut p)) ≡ fence.nth
