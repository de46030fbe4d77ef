-- The lists of sizes that are judged: each is of few processes of each role, and each such list is there.
use Rattle.std.proofs.Common.{◌≡◌, ◌∙◌, ap, sym, subst, refl, ℕ, zero, suc, ◌+◌, ◌-◌, ◌≤◌, ◌<◌, ◌^◌, List, [], ◌∷◌, ◌++◌, length, true, false, Some, inl, inr, arith, append_assoc, append-nil}
use Rattle.std.specs.Prelude.{slice_get, replicate}
use Rattle.std.proofs.lemmas.Bool.{cond-true, cond-false, cases_lt, cases_Bool, cases_eq, false≢true}
use Rattle.std.proofs.lemmas.List.{length-append, length-replicate}
use Rattle.std.proofs.lemmas.List.Sums.{sum_by-cons}
use Rattle.std.proofs.Common.{lt-ltb, le-ltb}
use Rattle.wire_pattern.specs.Pattern.{Role}
use Rattle.wire_pattern.specs.Lawful.{HasLawfulLeast}
use Rattle.wire_pattern.specs.Planned.{single_in}
use Rattle.wire_pattern.specs.Instances.{roles_from}
use Rattle.wire_cutoff_laws.specs.Sizes.{most_of, AreFewSizes, numbers_from, sizes_of, followed, with_role, with_roles, all_sizes, total_of}
use Rattle.wire_cutoff.specs.Selections.{most_sizes}
use Rattle.wire_cutoff.proofs.Members.{In, in_left, in_right, in_parts}

-- numbers from n on
pub number_in : (n count x : ℕ) → n ≤ x → x < n + count → In x (numbers_from n count)
number_in n zero x low high = absurd (omega arith)
number_in n (suc count) x low high = elim (cases_eq n x) [ inl e ↦ inl e | inr ne ↦ inr (number_in (suc n) count x (more ne) less) ]
  where
    more : (n ≡ x → ⊥) → suc n ≤ x
    more ne = omega (arith, ne)

    less : x < suc n + count
    less = omega (arith, high)

number_of : (n count x : ℕ) → In x (numbers_from n count) → (n ≤ x) × (x < n + count)
number_of n zero x h = absurd h
number_of n (suc count) x (inl e) = (omega (arith, e), omega (arith, e))
number_of n (suc count) x (inr h) = let b = number_of (suc n) count x h in (omega (arith, b), omega (arith, b))

-- one list, followed by each of these numbers
followed_in : (sizes ns : List ℕ) (x : ℕ) → In x ns → In (sizes ++ x ∷ []) (followed sizes ns)
followed_in sizes [] x h = absurd h
followed_in sizes (n ∷ ns) x (inl e) = inl (ap (λ m. sizes ++ m ∷ []) e)
followed_in sizes (n ∷ ns) x (inr h) = inr (followed_in sizes ns x h)

followed_of : (sizes ns longer : List ℕ) → In longer (followed sizes ns) → (x : ℕ) × In x ns × (longer ≡ sizes ++ x ∷ [])
followed_of sizes [] longer h = absurd h
followed_of sizes (n ∷ ns) longer (inl e) = (n, inl refl, sym e)
followed_of sizes (n ∷ ns) longer (inr h) = let f = followed_of sizes ns longer h in (f.0, inr f.1, f.2)

Fits : Role → ℕ → Type 0
Fits role size = (role.least ≤ size) × (size ≤ most_of role)

role_in : (lists : List (List ℕ)) (role : Role) (sizes : List ℕ) (x : ℕ) → In sizes lists → Fits role x → In (sizes ++ x ∷ []) (with_role lists role)
unfolding Fits
role_in [] role sizes x h fits = absurd h
role_in (l ∷ lists) role sizes x (inl e) fits =
    in_left (sizes ++ x ∷ []) (followed l (sizes_of role)) (with_role lists role)
    (subst (λ m. In (sizes ++ x ∷ []) (followed m (sizes_of role))) (sym e)
    (followed_in sizes (sizes_of role) x (number_in role.least (suc (most_of role) - role.least) x fits.0 (omega (arith, fits)))))
role_in (l ∷ lists) role sizes x (inr h) fits = in_right (sizes ++ x ∷ []) (followed l (sizes_of role)) (with_role lists role) (role_in lists role sizes x h fits)

record OfRole (lists : List (List ℕ)) (role : Role) (longer : List ℕ) : Type 0 where
  sizes : List ℕ
  size : ℕ
  there : In sizes lists
  fits : Fits role size
  is : longer ≡ sizes ++ size ∷ []

role_of : (lists : List (List ℕ)) (role : Role) (longer : List ℕ) → In longer (with_role lists role) → OfRole lists role longer
unfolding Fits
role_of [] role longer h = absurd h
role_of (l ∷ lists) role longer h = elim (in_parts longer (followed l (sizes_of role)) (with_role lists role) h) [
  | inl a ↦ here (followed_of l (sizes_of role) longer a)
  | inr b ↦ later (role_of lists role longer b)
]
  where
    here : (x : ℕ) × In x (sizes_of role) × (longer ≡ l ++ x ∷ []) → OfRole (l ∷ lists) role longer
    here f = let b = number_of role.least (suc (most_of role) - role.least) f.0 f.1 in
        record { sizes = l; size = f.0; there = inl refl; fits = (omega (arith, b), omega (arith, b)); is = f.2 }

    later : OfRole lists role longer → OfRole (l ∷ lists) role longer
    later o = record { sizes = o.sizes; size = o.size; there = inr o.there; fits = o.fits; is = o.is }

roles_in : (roles : List Role) (lists : List (List ℕ)) (front sizes : List ℕ) → In front lists → AreFewSizes roles sizes → In (front ++ sizes) (with_roles lists roles)
unfolding Fits
roles_in [] lists front [] h are = subst (λ m. In m lists) (sym (append-nil front)) h
roles_in [] lists front (size ∷ sizes) h are = absurd are
roles_in (role ∷ roles) lists front [] h are = absurd are
roles_in (role ∷ roles) lists front (size ∷ sizes) h are =
    subst (λ m. In m (with_roles (with_role lists role) roles)) (append_assoc front (size ∷ []) sizes)
    (roles_in roles (with_role lists role) (front ++ size ∷ []) sizes (role_in lists role front size h are.0) are.1)

record OfRoles (lists : List (List ℕ)) (roles : List Role) (whole : List ℕ) : Type 0 where
  front : List ℕ
  sizes : List ℕ
  there : In front lists
  are : AreFewSizes roles sizes
  is : whole ≡ front ++ sizes

roles_of : (roles : List Role) (lists : List (List ℕ)) (whole : List ℕ) → In whole (with_roles lists roles) → OfRoles lists roles whole
unfolding Fits
roles_of [] lists whole h = record { front = whole; sizes = []; there = h; are = tt; is = sym (append-nil whole) }
roles_of (role ∷ roles) lists whole h = joined (roles_of roles (with_role lists role) whole h)
  where
    joined : OfRoles (with_role lists role) roles whole → OfRoles lists (role ∷ roles) whole
    joined o = let r : OfRole lists role o.front = role_of lists role o.front o.there in record {
      front = r.sizes;
      sizes = r.size ∷ o.sizes;
      there = r.there;
      are = (r.fits, o.are);
      is = o.is ∙ ap (λ f. f ++ o.sizes) r.is ∙ append_assoc r.sizes (r.size ∷ []) o.sizes;
    }

-- each list of sizes is among all of them
pub sizes_there : (roles : List Role) (sizes : List ℕ) → AreFewSizes roles sizes → In sizes (all_sizes roles)
sizes_there roles sizes are = roles_in roles ([] ∷ []) [] sizes (inl refl) are

-- and each of these is one
pub sizes_are : (roles : List Role) (sizes : List ℕ) → In sizes (all_sizes roles) → AreFewSizes roles sizes
sizes_are roles sizes there = of (roles_of roles ([] ∷ []) sizes there)
  where
    of : OfRoles ([] ∷ []) roles sizes → AreFewSizes roles sizes
    of o = subst (AreFewSizes roles) (sym (o.is ∙ ap (λ f. f ++ o.sizes) (nothing o.front o.there))) o.are
      where
        nothing : (front : List ℕ) → In front ([] ∷ []) → front ≡ []
        nothing front (inl e) = sym e
        nothing front (inr h) = absurd h

-- so many processes at most
pub sizes_bounded : (roles : List Role) (sizes : List ℕ) → AreFewSizes roles sizes → total_of sizes ≤ total_of (most_sizes roles)
sizes_bounded [] [] are = omega arith
sizes_bounded [] (size ∷ sizes) are = absurd are
sizes_bounded (role ∷ roles) [] are = absurd are
sizes_bounded (role ∷ roles) (size ∷ sizes) are =
    let rest = sizes_bounded roles sizes are.1 in
    omega (arith, rest, are.0, sum_by-cons (λ (n : ℕ). n) size sizes, sum_by-cons (λ (n : ℕ). n) (most_of role) (most_sizes roles))

most_single : (role : Role) → role.single ≡ true → most_of role ≡ 1
most_single role single = cond-true role.single 1 _ single

least_most : (role : Role) → HasLawfulLeast role → role.least ≤ most_of role
least_most role has = elim (cases_Bool role.single) [ inl y ↦ one y | inr n ↦ elim (cases_lt role.least 3) [ inl lt ↦ three n lt | inr le ↦ more n le ] ]
  where
    one : role.single ≡ true → role.least ≤ most_of role
    one y = let a = has.0 y in let b = most_single role y in omega (arith, a, b)

    three : role.single ≡ false → role.least < 3 → role.least ≤ most_of role
    three n lt = let b : most_of role ≡ 3 = cond-false role.single 1 _ n ∙ cond-true _ 3 role.least (lt-ltb role.least 3 lt) in omega (arith, b, lt)

    more : role.single ≡ false → 3 ≤ role.least → role.least ≤ most_of role
    more n le = let b : most_of role ≡ role.least = cond-false role.single 1 _ n ∙ cond-false _ 3 role.least (le-ltb role.least 3 le) in omega (arith, b)

-- the most processes of each role are few
pub most_are : (roles : List Role) → ((r : ℕ) (role : Role) → slice_get roles r ≡ Some role → HasLawfulLeast role) → AreFewSizes roles (most_sizes roles)
most_are [] each = tt
most_are (role ∷ roles) each = ((least_most role (each 0 role refl), omega arith), most_are roles (λ r other is. each (suc r) other is))

pub sizes_count : (roles : List Role) (sizes : List ℕ) → AreFewSizes roles sizes → length sizes ≡ length roles
sizes_count [] [] are = refl
sizes_count [] (size ∷ sizes) are = absurd are
sizes_count (role ∷ roles) [] are = absurd are
sizes_count (role ∷ roles) (size ∷ sizes) are = ap suc (sizes_count roles sizes are.1)

-- a single role has one process
pub single_size : (roles : List Role) (sizes : List ℕ) → ((r : ℕ) (role : Role) → slice_get roles r ≡ Some role → HasLawfulLeast role) → AreFewSizes roles sizes
    → (n : ℕ) → single_in (slice_get roles n) ≡ true → slice_get sizes n ≡ Some 1
single_size [] [] each are n single = absurd (false≢true single)
single_size [] (size ∷ sizes) each are n single = absurd are
single_size (role ∷ roles) [] each are n single = absurd are
single_size (role ∷ roles) (size ∷ sizes) each are zero single = ap Some one
  where
    one : size ≡ 1
    one = let a = (each 0 role refl).0 single in let b = most_single role single in omega (arith, a, b, are.0)
single_size (role ∷ roles) (size ∷ sizes) each are (suc n) single = single_size roles sizes (λ r other is. each (suc r) other is) are.1 n single

-- the processes have roles, one each
pub roles_count : (n : ℕ) (sizes : List ℕ) → length (roles_from n sizes) ≡ total_of sizes
roles_count n [] = refl
roles_count n (size ∷ sizes) =
    length-append (replicate size n) (roles_from (suc n) sizes) ∙ ap (λ k. k + length (roles_from (suc n) sizes)) (length-replicate size n)
    ∙ ap (λ k. size + k) (roles_count (suc n) sizes) ∙ sym (sum_by-cons (λ (k : ℕ). k) size sizes)

pub roles_few : (roles sizes : List ℕ) → roles ≡ roles_from 0 sizes → total_of sizes < 2 ^ 31 → length roles < 2 ^ 31
roles_few roles sizes is few = let a = roles_count 0 sizes in omega (arith, ap length is, a, few)
