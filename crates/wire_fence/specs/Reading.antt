-- What the first calls of the processes say of a fence: for the contracts of private functions.
use Rattle.std.specs.Prelude.{ℕ, zero, suc, List, take, Bool, true, ◌&&◌, ◌==◌, Option, Some, slice_get, if◌then◌else◌}
use Rattle.wire_types.specs.declared.Call.{Call}
use Rattle.wire_types.specs.declared.Call.TheVariants.{Fence}
use Rattle.wire_fence.specs.FenceTable.{fence_count}

abbrev pub says_with : ℕ → ℕ → ℕ → Bool → Option Call → Bool
says_with set j n before (Some (Fence other collect)) = if (other == set) && (suc n == j) then collect else before
says_with set j n before _ = before

-- whether the j-th fence call over the set, if it is among the first c calls, says collect; true where it isn't among
-- them, so this speaks of a fence only beside the count of those who haven't called it
abbrev pub says_to : ℕ → ℕ → List Call → ℕ → Bool
says_to set j calls zero = true
says_to set j calls (suc c) = says_with set j (fence_count set (take c calls)) (says_to set j calls c) (slice_get calls c)
