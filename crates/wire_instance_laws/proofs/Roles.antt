-- The roles of the processes of a cast: how many there are, in which order, and who stands for a name of a line.
use Rattle.std.proofs.Common.{◌≡◌, ◌∙◌, ap, sym, subst, refl, ℕ, zero, suc, ◌+◌, ◌<◌, ◌≤◌, List, [], ◌∷◌, ◌++◌, map, replicate, take, length, get_or, Bool, true, false, Some, slice_get, slice_index_or, count_by, sum_by, arith, length-append, true≢false, inl, inr}
use Rattle.std.specs.Prelude.{◌==◌, not, nat_lt, filter, if◌then◌else◌, ⊤}
use Rattle.std.proofs.lemmas.Bool.{cases_Bool, cond-true, cond-false, or_left, or_right}
use Rattle.std.proofs.lemmas.List.Sums.{sum_by-cons}
use Rattle.std.proofs.lemmas.Option.{none-some, same_Some}
use borrow.Author.Tests.{eq-eqb, eqb-true}
use Rattle.wire_runs.specs.Fences.{is_member}
use Rattle.wire_runs.specs.Patterns as plan
use Rattle.wire_runs.specs.Patterns.{Who, Only, Self, Each, Turns, InOrder, Round, Chosen, group, who, turns}
use Rattle.wire_runs.proofs.WholeSets.{plays, group_member}
use Rattle.wire_pattern.specs.Instances.{Cast, process_count, roles_from, cast_of}

-- of each element
abbrev pub EachOf : {A : Type 0} → (A → Type 0) → List A → Type 0
EachOf P [] = ⊤
EachOf P (x ∷ xs) = P x × EachOf P xs

pub each_both : {A : Type 0} (P : A → Type 0) (xs ys : List A) → EachOf P xs → EachOf P ys → EachOf P (xs ++ ys)
each_both P [] ys h k = k
each_both P (x ∷ xs) ys h k = (h.0, each_both P xs ys h.1 k)

pub each_map : {A B : Type 0} (P : B → Type 0) (f : A → B) (xs : List A) → EachOf (λ x. P (f x)) xs → EachOf P (map f xs)
each_map P f [] h = tt
each_map P f (x ∷ xs) h = (h.0, each_map P f xs h.1)

pub each_at : {A : Type 0} (P : A → Type 0) (xs : List A) (n : ℕ) (x : A) → EachOf P xs → slice_get xs n ≡ Some x → P x
each_at P [] n x h at = absurd (none-some x at)
each_at P (y ∷ ys) zero x h at = subst P (same_Some _ _ at) h.0
each_at P (y ∷ ys) (suc n) x h at = each_at P ys n x h.1 at

pub each_by_place : {A : Type 0} (P : A → Type 0) (xs : List A) → ((n : ℕ) (x : A) → slice_get xs n ≡ Some x → P x) → EachOf P xs
each_by_place P [] h = tt
each_by_place P (x ∷ xs) h = (h zero x refl, each_by_place P xs (λ n y at. h (suc n) y at))

pub each_filter : {A : Type 0} (P : A → Type 0) (f : A → Bool) (xs : List A) → EachOf P xs → EachOf P (filter f xs)
each_filter P f [] h = tt
each_filter P f (x ∷ xs) h = elim (f x) as (λ b. EachOf P (if b then x ∷ filter f xs else filter f xs)) [
  | true ↦ (h.0, each_filter P f xs h.1)
  | false ↦ each_filter P f xs h.1
]

pub there : {A : Type 0} (xs : List A) (n : ℕ) (x : A) → slice_get xs n ≡ Some x → n < length xs
there [] n x at = absurd (none-some x at)
there (y ∷ ys) zero x at = omega arith
there (y ∷ ys) (suc n) x at = let h = there ys n x at in omega (arith, h)

pub stands : {A : Type 0} (xs : List A) (n : ℕ) → n < length xs → (x : A) × (slice_get xs n ≡ Some x)
stands [] n h = absurd (omega (arith, h))
stands (x ∷ xs) zero h = (x, refl)
stands (x ∷ xs) (suc n) h = stands xs n (omega (arith, h))

pub index_at : {A : Type 0} (xs : List A) (n : ℕ) (x d : A) → slice_get xs n ≡ Some x → slice_index_or xs n d ≡ x
index_at [] n x d at = absurd (none-some x at)
index_at (y ∷ ys) zero x d at = same_Some _ _ at
index_at (y ∷ ys) (suc n) x d at = index_at ys n x d at

-- how many processes there are
pub roles_length : (n : ℕ) (sizes : List ℕ) → length (roles_from n sizes) ≡ sum_by (λ (size : ℕ). size) sizes
roles_length n [] = refl
roles_length n (size ∷ sizes) =
    length-append (replicate size n) (roles_from (suc n) sizes) ∙ (λ i. replicated size i + roles_length (suc n) sizes i) ∙ sym (sum_by-cons (λ (s : ℕ). s) size sizes)
  where
    replicated : (k : ℕ) → length (replicate k n) ≡ k
    replicated zero = refl
    replicated (suc k) = ap suc (replicated k)

pub count_is : (cast : Cast) → length (cast_of cast).roles ≡ process_count cast
count_is cast = roles_length 0 cast.sizes

-- roles don't fall, and are below a bound
abbrev pub RolesRise : ℕ → ℕ → List ℕ → Type 0
RolesRise least bound [] = ⊤
RolesRise least bound (r ∷ rs) = (least ≤ r) × (r < bound) × RolesRise r bound rs

rise_from : (least m bound : ℕ) (rs : List ℕ) → least ≤ m → RolesRise m bound rs → RolesRise least bound rs
rise_from least m bound [] le h = tt
rise_from least m bound (r ∷ rs) le h = (let l = h.0 in omega (arith, le, l), h.1, h.2)

rise_replicate : (k n bound : ℕ) (rs : List ℕ) → n < bound → RolesRise n bound rs → RolesRise n bound (replicate k n ++ rs)
rise_replicate zero n bound rs low h = h
rise_replicate (suc k) n bound rs low h = (omega arith, low, rise_replicate k n bound rs low h)

rise_all : (n bound : ℕ) (sizes : List ℕ) → n + length sizes ≤ bound → RolesRise n bound (roles_from n sizes)
rise_all n bound [] le = tt
rise_all n bound (size ∷ sizes) le =
    rise_replicate size n bound (roles_from (suc n) sizes) (omega (arith, le))
    (rise_from n (suc n) bound (roles_from (suc n) sizes) (omega arith) (rise_all (suc n) bound sizes (omega (arith, le))))

pub roles_rise : (cast : Cast) → RolesRise 0 (length cast.sizes) (cast_of cast).roles
roles_rise cast = rise_all 0 (length cast.sizes) cast.sizes (omega arith)

pub role_below : (least bound : ℕ) (rs : List ℕ) (v r : ℕ) → RolesRise least bound rs → slice_get rs v ≡ Some r → r < bound
role_below least bound [] v r h at = absurd (none-some r at)
role_below least bound (x ∷ xs) zero r h at = subst (λ y. y < bound) (same_Some _ _ at) h.1
role_below least bound (x ∷ xs) (suc v) r h at = role_below x bound xs v r h.2 at

-- the processes of a role are processes
plays_there : (roles : List ℕ) (q role : ℕ) → plays (slice_get roles q) role ≡ true → slice_get roles q ≡ Some role
plays_there [] q role h = absurd (true≢false (sym h))
plays_there (x ∷ xs) zero role h = let e = eqb-true x role h in ap Some e
plays_there (x ∷ xs) (suc q) role h = plays_there xs q role h

pub member_role : (roles : List ℕ) (role q : ℕ) → is_member (group role roles) q ≡ true → slice_get roles q ≡ Some role
member_role roles role q h = plays_there roles q role (sym (group_member role roles q) ∙ h)

pub role_member : (roles : List ℕ) (role q : ℕ) → slice_get roles q ≡ Some role → is_member (group role roles) q ≡ true
role_member roles role q at = group_member role roles q ∙ ap (λ o. plays o role) at ∙ eq-eqb role role refl

-- what a list holds are its members
pub each_member : (P : ℕ → Type 0) (xs : List ℕ) → ((q : ℕ) → is_member xs q ≡ true → P q) → EachOf P xs
each_member P [] h = tt
each_member P (x ∷ xs) h = (
  h x (or_left _ _ (eq-eqb x x refl)),
  each_member P xs (λ q i. h q (or_right (x == q) (is_member xs q) i)),
)

pub group_low : (role : ℕ) (roles : List ℕ) → EachOf (λ q. q < length roles) (group role roles)
group_low role roles = each_member (λ q. q < length roles) (group role roles) (λ q i. there roles q role (member_role roles role q i))

pub turns_low : (cast : plan.Cast) (v i role : ℕ) (mode : Turns) → EachOf (λ q. q < length cast.roles) (turns cast v i role mode)
turns_low cast v i role InOrder = each_filter _ _ _ (group_low role cast.roles)
turns_low cast v i role Round =
    elim (is_member (group role cast.roles) v) as (λ b. EachOf (λ q. q < length cast.roles) (if b then filter (λ e. nat_lt v e) (group role cast.roles)
    ++ filter (λ e. nat_lt e v) (group role cast.roles) else filter (λ e. not (e == v)) (group role cast.roles))) [
      | true ↦ each_both _ _ _ (each_filter _ _ _ (group_low role cast.roles)) (each_filter _ _ _ (group_low role cast.roles))
      | false ↦ each_filter _ _ _ (group_low role cast.roles)
    ]
turns_low cast v i role Chosen = each_filter _ _ _ (group_low role cast.roles)

-- who is named is a process, where the caller and the process of the turn are
pub who_low : (cast : plan.Cast) (v e : ℕ) (w : Who) → v < length cast.roles → e < length cast.roles → who cast v e w < length cast.roles
who_low cast v e (Only role) low low_e = first (group role cast.roles) (group_low role cast.roles)
  where
    first : (xs : List ℕ) → EachOf (λ q. q < length cast.roles) xs → get_or xs 0 0 < length cast.roles
    first [] h = omega (arith, low)
    first (x ∷ xs) h = h.0
who_low cast v e Self low low_e = low
who_low cast v e Each low low_e = low_e

-- ranks are at most the processes before
pub counted_low : {A : Type 0} (f : A → Bool) (k : ℕ) (xs : List A) → count_by f (take k xs) ≤ k
counted_low f zero xs = omega arith
counted_low f (suc k) [] = omega arith
counted_low f (suc k) (x ∷ xs) =
    let cut = sum_by-cons (λ y. if f y then 1 else 0) x (take k xs) in
    let rest = counted_low f k xs in
    elim (cases_Bool (f x)) [
      | inl t ↦ let one = cond-true {A = ℕ} (f x) 1 0 t in omega (arith, cut, rest, one)
      | inr t ↦ let one = cond-false {A = ℕ} (f x) 1 0 t in omega (arith, cut, rest, one)
    ]
