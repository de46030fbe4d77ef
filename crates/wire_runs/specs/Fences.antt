-- Fences, as functions of the scripts (PMIx Standard 5.0, PMIx_Fence).
-- A fence is a set of members and a number j: it is the j-th fence of each member over that set.
use Rattle.std.specs.Prelude.{ℕ, zero, suc, List, Bool, true, ◌&&◌, Option, Some, ◌==◌, nat_le}
use Rattle.std.specs.Prelude.{bytes_eq as same_members, if◌then◌else◌}
use Rattle.std.specs.List.{list_any, list_all}
use Rattle.wire_runs.specs.Plan.{Plan, Kind, Arrive, kind_at, event_count, node_of}

abbrev pub is_member : List ℕ → ℕ → Bool
is_member members m = list_any (λ x. x == m) members

abbrev pub arrivals_with : List ℕ → ℕ → Option Kind → ℕ
arrivals_with members n (Some (Arrive others collect)) = if same_members others members then suc n else n
arrivals_with members n _ = n

-- at how many fences over these members p arrives in its first n events
abbrev pub arrivals : Plan → ℕ → List ℕ → ℕ → ℕ
arrivals plan p members zero = 0
arrivals plan p members (suc n) = arrivals_with members (arrivals plan p members n) (kind_at plan p n)

-- whether each member has arrived at the j-th fence over these members, in a cut
abbrev pub is_complete : Plan → (ℕ → ℕ) → List ℕ → ℕ → Bool
is_complete plan cut members j = list_all (λ m. nat_le j (arrivals plan m members (cut m))) members

-- whether each member has a j-th fence call over them
abbrev pub is_full : Plan → List ℕ → ℕ → Bool
is_full plan members j = is_complete plan (event_count plan) members j

abbrev pub collects_with : List ℕ → ℕ → ℕ → Bool → Option Kind → Bool
collects_with members j n before (Some (Arrive others collect)) =
    if same_members others members && (suc n == j) then collect else before
collects_with members j n before _ = before

-- whether p's j-th fence call over these members, if it is among the first n events, says collect. It answers true
-- where there is no such call, so it speaks only beside is_full
abbrev pub collects : Plan → ℕ → List ℕ → ℕ → ℕ → Bool
collects plan p members j zero = true
collects plan p members j (suc n) =
    collects_with members j (arrivals plan p members n) (collects plan p members j n) (kind_at plan p n)

-- whether every call of the j-th fence over these members says collect; the law `collects_by_all` says so by the calls
abbrev pub is_collecting : Plan → List ℕ → ℕ → Bool
is_collecting plan members j = list_all (λ m. collects plan m members j (event_count plan m)) members

abbrev pub has_node : Plan → List ℕ → ℕ → Bool
has_node plan members node = list_any (λ m. node_of plan m == node) members
