-- The processes of a role are a range.
use Rattle.std.proofs.Common.{◌≡◌, ◌∙◌, ap, sym, refl, ℕ, zero, suc, ◌+◌, ◌-◌, ◌<◌, ◌≤◌, List, [], ◌∷◌, ◌++◌, map, length, take, replicate, arith, add-zero, zero-add}
use Rattle.std.specs.Prelude.{slice_index_or, sum_by}
use Rattle.std.specs.List.{range_with_len}
use Rattle.std.proofs.lemmas.Grind.{common_steps}
use Rattle.std.proofs.lemmas.Bool.{eq-eqb, ne_eqb}
use Rattle.std.proofs.lemmas.List.Sums.{sum_by-cons, sum_by_more, sum_by-take-le}
use Rattle.wire_runs.specs.Patterns.{group}
use Rattle.wire_pattern.specs.Instances.{roles_from}
use Rattle.wire_instances.specs.Tables.{first_of}
use Rattle.wire_instances.proofs.Ranges.{map_suc}

-- behind processes of another role
behind_others : (size n r a m : ℕ) (rest : List ℕ) → (n ≡ r → ⊥) → group r rest ≡ range_with_len a m → group r (replicate size n ++ rest) ≡ range_with_len (size + a) m
behind_others zero n r a m rest ne h = rw (zero-add a) h
behind_others (suc size) n r a m rest ne h =
    let e : suc (size + a) ≡ suc size + a = omega arith in
    rw (ne_eqb n r ne) (ap (map suc) (behind_others size n r a m rest ne h) ∙ map_suc (size + a) m ∙ ap (λ b. range_with_len b m) e)

-- before processes of others
before_others : (size r : ℕ) (rest : List ℕ) → group r rest ≡ [] → group r (replicate size r ++ rest) ≡ range_with_len 0 size
before_others zero r rest h = h
before_others (suc size) r rest h =
    rw (eq-eqb r r refl) (ap (λ xs. 0 ∷ map suc xs) (before_others size r rest h) ∙ ap (λ xs. 0 ∷ xs) (map_suc 0 size))

none_later : (n r : ℕ) (sizes : List ℕ) → r < n → group r (roles_from n sizes) ≡ []
none_later n r [] h = refl
none_later n r (size ∷ sizes) h =
    behind_others size n r 0 0 (roles_from (suc n) sizes) (λ e. omega (arith, e, h)) (none_later (suc n) r sizes (omega (arith, h)))

groups_from : (n k : ℕ) (sizes : List ℕ) → group (n + k) (roles_from n sizes) ≡ range_with_len (first_of sizes k) (slice_index_or sizes k 0)
groups_from n k [] = refl
groups_from n zero (size ∷ sizes) = rw (add-zero n) (before_others size n (roles_from (suc n) sizes) (none_later (suc n) n sizes (omega arith)))
groups_from n (suc k) (size ∷ sizes) =
    let e : n + suc k ≡ suc n + k = omega arith in
    rw e (behind_others size n (suc n + k) (first_of sizes k) (slice_index_or sizes k 0) (roles_from (suc n) sizes) (λ q. omega (arith, q)) (groups_from (suc n) k sizes)
    ∙ ap (λ b. range_with_len b (slice_index_or sizes k 0)) (sym (sum_by-cons (λ (x : ℕ). x) size (take k sizes))))

-- the processes of a role
pub group_range : (k : ℕ) (sizes : List ℕ) → group k (roles_from 0 sizes) ≡ range_with_len (first_of sizes k) (slice_index_or sizes k 0)
group_range k sizes = ap (λ r. group r (roles_from 0 sizes)) (sym (zero-add k)) ∙ groups_from 0 k sizes

-- how many processes there are
pub length_roles : (n : ℕ) (sizes : List ℕ) → length (roles_from n sizes) ≡ sum_by (λ (size : ℕ). size) sizes
length_roles n [] = refl
length_roles n (size ∷ sizes) =
    grind (arith, common_steps, length_roles (suc n) sizes)

-- the range, by where it begins and ends
pub group_between : (role : ℕ) (sizes : List ℕ) (first end : ℕ) → role < length sizes → first ≡ first_of sizes role → end ≡ first_of sizes (role + 1)
    → range_with_len first (end - first) ≡ group role (roles_from 0 sizes)
group_between role sizes first end h f e =
    let n : end - first ≡ slice_index_or sizes role 0 = omega (arith, f, e, sum_by_more (λ (size : ℕ). size) sizes role 0 h) in
    ap (range_with_len first) n ∙ ap (λ a. range_with_len a (slice_index_or sizes role 0)) f ∙ sym (group_range role sizes)

pub size_of : (role : ℕ) (sizes : List ℕ) (first end : ℕ) → role < length sizes → first ≡ first_of sizes role → end ≡ first_of sizes (role + 1) → end ≡ first + slice_index_or sizes role 0
size_of role sizes first end h f e = omega (arith, f, e, sum_by_more (λ (size : ℕ). size) sizes role 0 h)

past : (sizes : List ℕ) (role : ℕ) → (role < length sizes → ⊥) → slice_index_or sizes role 0 ≡ 0
past [] role h = refl
past (size ∷ sizes) zero h = absurd (h (omega arith))
past (size ∷ sizes) (suc role) h = past sizes role (λ l. h (omega (arith, l)))

pub group_past : (role : ℕ) (sizes : List ℕ) → (role < length sizes → ⊥) → [] ≡ group role (roles_from 0 sizes)
group_past role sizes h = sym (group_range role sizes ∙ ap (range_with_len (first_of sizes role)) (past sizes role h))

pub size_past : (role : ℕ) (sizes : List ℕ) → (role < length sizes → ⊥) → 0 ≡ slice_index_or sizes role 0
size_past role sizes h = sym (past sizes role h)

pub first_within : (sizes : List ℕ) (role end : ℕ) → end ≡ first_of sizes role → end ≤ sum_by (λ (size : ℕ). size) sizes
first_within sizes role end e = omega (arith, e, sum_by-take-le (λ (size : ℕ). size) sizes role)
