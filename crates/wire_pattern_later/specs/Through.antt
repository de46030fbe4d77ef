-- How many processes of each group are looked at where nothing waits with few of them.
use Rattle.std.specs.Prelude.{ℕ, suc, Bool, true, false, max, List, [], ◌∷◌, flat_map, count_by, ◌==◌, ◌&&◌, if◌then◌else◌}
use Rattle.std.specs.List.{list_any}
use Rattle.wire_pattern.specs.Pattern.{Call, Commit, Fence, Get, Publish, LookupWait, Line, Step, Once, Loop, Role}

-- others wait for what the call does
abbrev pub is_awaited : Call → Bool
is_awaited Commit = true
is_awaited (Publish name value) = true
is_awaited (Fence items collect) = true
is_awaited _ = false

-- the call can wait
abbrev pub may_wait : Call → Bool
may_wait (Get owner key) = true
may_wait (LookupWait name) = true
may_wait (Fence items collect) = true
may_wait _ = false

-- at or behind the first of these lines that others wait for, one can wait
abbrev pub waits_behind : List Line → Bool
waits_behind [] = false
waits_behind (line ∷ lines) = if is_awaited line.call then list_any (λ l. may_wait l.call) (line ∷ lines) else waits_behind lines

-- a *through* loop over the group: from one turn to the next, others may wait for what waits itself
abbrev pub is_through : ℕ → Step → Bool
is_through role (Once line) = false
is_through role (Loop number group turns lines) = (group == role) && waits_behind lines

-- how many through loops all scripts have over the group
abbrev pub through_count : List Role → ℕ → ℕ
through_count roles role = count_by (is_through role) (flat_map (λ r. r.steps) roles)

-- how many they have over this role, of number n, if it is a group: of a single role there is one process in every
-- instance
abbrev pub group_count : List Role → ℕ → Role → ℕ
group_count all n role = if role.single then 0 else through_count all n

-- the most that they have over one of the groups among these roles, of which the first has the number n
abbrev pub most_through : List Role → ℕ → List Role → ℕ
most_through all n [] = 0
most_through all n (role ∷ roles) = max (group_count all n role) (most_through all (suc n) roles)

-- the least number that all groups may have, 3 at least
abbrev pub first_size : List Role → ℕ
first_size [] = 3
first_size (role ∷ roles) = max role.least (first_size roles)

-- the largest that is looked at: one more than the most through loops over one group, or the first where that is more
abbrev pub last_size : List Role → ℕ
last_size roles = max (first_size roles) (suc (most_through roles 0 roles))
