-- How many processes of each role are judged: of a single role one, of a group from its least number to three, or its
-- least number where that is more.
use Rattle.std.specs.Prelude.{ℕ, zero, suc, ◌-◌, ◌≤◌, nat_lt, List, [], ◌∷◌, ◌++◌, map, flat_map, sum_by, if◌then◌else◌}
use Rattle.wire_pattern.specs.Pattern.{Role}

-- the most processes of a role that are judged
abbrev pub most_of : Role → ℕ
most_of role = if role.single then 1 else if nat_lt role.least 3 then 3 else role.least

-- from the least to the most of each role
abbrev pub AreFewSizes : List Role → List ℕ → Type 0
AreFewSizes [] [] = Unit {0}
AreFewSizes (role ∷ roles) (size ∷ sizes) = ((role.least ≤ size) × (size ≤ most_of role)) × AreFewSizes roles sizes
AreFewSizes _ _ = ⊥

-- so many numbers, the first of them n
abbrev pub numbers_from : ℕ → ℕ → List ℕ
numbers_from n zero = []
numbers_from n (suc count) = n ∷ numbers_from (suc n) count

-- the sizes of a role that are judged, the smallest first
abbrev pub sizes_of : Role → List ℕ
sizes_of role = numbers_from role.least (suc (most_of role) - role.least)

-- one list followed by each of these numbers
abbrev pub followed : List ℕ → List ℕ → List (List ℕ)
followed sizes numbers = map (λ n. sizes ++ n ∷ []) numbers

-- these lists with the sizes of one role more
abbrev pub with_role : List (List ℕ) → Role → List (List ℕ)
with_role lists role = flat_map (λ sizes. followed sizes (sizes_of role)) lists

-- these lists with the sizes of these roles, in lexicographic order where the lists are
abbrev pub with_roles : List (List ℕ) → List Role → List (List ℕ)
with_roles lists [] = lists
with_roles lists (role ∷ roles) = with_roles (with_role lists role) roles

-- the sizes of all roles, in lexicographic order
abbrev pub all_sizes : List Role → List (List ℕ)
all_sizes roles = with_roles ([] ∷ []) roles

abbrev pub total_of : List ℕ → ℕ
total_of sizes = sum_by (λ (size : ℕ). size) sizes
