-- Sets of processes with one left out.
use Rattle.std.proofs.Common.{◌≡◌, ℕ, zero, suc, ◌<◌, ◌≤◌, List, [], ◌∷◌, ◌++◌, map, length, Bool, true, false, not, ◌||◌, ◌==◌, nat_lt, Option, Some, None, get_or, ◌⊎◌, inl, inr, refl, sym, ap, ◌∙◌, subst, arith, eq-eqb, ne_eqb, eqb-true}
use Rattle.std.specs.Prelude.{slice_get, filter}
use Rattle.std.specs.List.{list_all}
use Rattle.std.proofs.lemmas.Bool.{cond-true, cond-false, cases_eq, cases_lt, cases_Bool, lt-ltb, le-ltb, or_cases, or_left, or_right, or_from, or_parts, true≢false, false_from_ne_true}
use Rattle.std.proofs.lemmas.List.Folds.{list_any-append}
use Rattle.wire_runs.specs.Plan.{with_member, set_of}
use Rattle.wire_runs.specs.Fences.{is_member}
use Rattle.wire_runs.specs.Patterns.{Who, Only, Self, Each, Item, Every, One, Pattern, Cast, group, who, item_members, members_in, has_every, KnowsWho, KnowsItem, KnowsItems}
use Rattle.wire_runs.specs.Restrictions.{skip, back, without, restricted, whole_again, CanGo}
use Rattle.wire_runs.proofs.Basics.{list_all_at_member}
use Rattle.wire_runs.proofs.Brought.{list_all_of_members}
use Rattle.wire_runs.proofs.Skip.{skip_eq, skip_not, skip_up, skip_back, without_get, group_skip}

-- rising lists
abbrev pub Above : ℕ → List ℕ → Type 0
Above k [] = Unit {0}
Above k (x ∷ xs) = (k < x) × Above k xs

abbrev pub Rises : List ℕ → Type 0
Rises [] = Unit {0}
Rises (x ∷ xs) = Above x xs × Rises xs

above_less : (j k : ℕ) (xs : List ℕ) → j < k → Above k xs → Above j xs
above_less j k [] lt a = tt
above_less j k (x ∷ xs) lt a = (let l = a.0 in omega (arith, lt, l), above_less j k xs lt a.1)

above_member : (k : ℕ) (xs : List ℕ) (q : ℕ) → Above k xs → is_member xs q ≡ true → k < q
above_member k [] q a i = absurd (true≢false (sym i))
above_member k (x ∷ xs) q a i = elim (or_cases _ _ i) [ inl t ↦ subst (λ v. k < v) (eqb-true x q t) a.0 | inr r ↦ above_member k xs q a.1 r ]

above_with : (k m : ℕ) (xs : List ℕ) → k < m → Above k xs → Above k (with_member m xs)
above_with k m [] lt a = (lt, tt)
above_with k m (x ∷ xs) lt a = elim (cases_Bool (nat_lt m x)) [
  | inl t ↦ subst (Above k) (sym (cond-true (nat_lt m x) (m ∷ (x ∷ xs)) _ t)) (lt, a)
  | inr f ↦ subst (Above k) (sym (cond-false (nat_lt m x) _ _ f)) (elim (cases_Bool (m == x)) [
    | inl t ↦ subst (Above k) (sym (cond-true (m == x) (x ∷ xs) _ t)) a
    | inr g ↦ subst (Above k) (sym (cond-false (m == x) _ _ g)) (a.0, above_with k m xs lt a.1)
  ])
]

rises_with : (m : ℕ) (xs : List ℕ) → Rises xs → Rises (with_member m xs)
rises_with m [] r = (tt, tt)
rises_with m (x ∷ xs) r = elim (cases_lt m x) [
  | inl lt ↦ subst Rises (sym (cond-true (nat_lt m x) (m ∷ (x ∷ xs)) _ (lt-ltb m x lt))) ((lt, above_less m x xs lt r.0), r)
  | inr ge ↦ subst Rises (sym (cond-false (nat_lt m x) _ _ (le-ltb m x ge))) (elim (cases_eq m x) [
    | inl e ↦ subst Rises (sym (cond-true (m == x) (x ∷ xs) _ (eq-eqb m x e))) r
    | inr ne ↦ subst Rises (sym (cond-false (m == x) _ _ (ne_eqb m x ne))) (above_with x m xs (omega (arith, ge, ne)) r.0, rises_with m xs r.1)
  ])
]

pub rises_set : (xs : List ℕ) → Rises (set_of xs)
rises_set [] = tt
rises_set (x ∷ xs) = rises_with x (set_of xs) (rises_set xs)

above_map : (r k : ℕ) (xs : List ℕ) → Above k xs → Above (skip r k) (map (skip r) xs)
above_map r k [] a = tt
above_map r k (x ∷ xs) a = (skip_up r k x a.0, above_map r k xs a.1)

rises_map : (r : ℕ) (xs : List ℕ) → Rises xs → Rises (map (skip r) xs)
rises_map r [] a = tt
rises_map r (x ∷ xs) a = (above_map r x xs a.0, rises_map r xs a.1)

-- of the members of one rising list and another
pub same_set : (xs ys : List ℕ) → Rises xs → Rises ys → ((q : ℕ) → is_member xs q ≡ is_member ys q) → xs ≡ ys
same_set [] [] a b same = refl
same_set [] (y ∷ ys) a b same = absurd (true≢false (sym (or_left _ _ (eq-eqb y y refl)) ∙ sym (same y)))
same_set (x ∷ xs) [] a b same = absurd (true≢false (sym (or_left _ _ (eq-eqb x x refl)) ∙ same x))
same_set (x ∷ xs) (y ∷ ys) a b same =
    let first : x ≡ y = elim (cases_eq x y) [
      | inl e ↦ e
      | inr ne ↦ absurd (elim (cases_lt x y) [
        | inl lt ↦ (let l = above_member x (y ∷ ys) x (lt, above_less x y ys lt b.0) (sym (same x) ∙ or_left _ _ (eq-eqb x x refl)) in omega (arith, l))
        | inr ge ↦ (let lt : y < x = omega (arith, ge, ne) in let l = above_member y (x ∷ xs) y (lt, above_less y x xs lt a.0) (same y ∙ or_left _ _ (eq-eqb y y refl)) in omega (arith, l))
      ])
    ] in
    let rest : (q : ℕ) → is_member xs q ≡ is_member ys q = λ q. elim (cases_eq x q) [
      | inl e ↦ none x xs q a.0 e ∙ sym (none y ys q b.0 (sym first ∙ e))
      | inr ne ↦ (sym (ap (λ b. b || is_member xs q) (ne_eqb x q ne)) ∙ same q ∙ ap (λ b. b || is_member ys q) (ne_eqb y q (λ s. ne (first ∙ s))))
    ] in
    ap (λ v. v ∷ xs) first ∙ ap (λ vs. y ∷ vs) (same_set xs ys a.1 b.1 rest)
  where
    none : (k : ℕ) (zs : List ℕ) (q : ℕ) → Above k zs → k ≡ q → is_member zs q ≡ false
    none k zs q above e = false_from_ne_true _ (λ i. let l = above_member k zs q above i in omega (arith, l, e))

or_swap : (a b c : Bool) → (a || (b || c)) ≡ (b || (a || c))
or_swap true true c = refl
or_swap true false c = refl
or_swap false b c = refl

or_same : (a c : Bool) → (a || c) ≡ (a || (a || c))
or_same true c = refl
or_same false c = refl

pub member_with : (m : ℕ) (xs : List ℕ) (q : ℕ) → is_member (with_member m xs) q ≡ ((m == q) || is_member xs q)
member_with m [] q = refl
member_with m (x ∷ xs) q = elim (cases_Bool (nat_lt m x)) [
  | inl t ↦ ap (λ ys. is_member ys q) (cond-true (nat_lt m x) (m ∷ (x ∷ xs)) _ t)
  | inr f ↦ ap (λ ys. is_member ys q) (cond-false (nat_lt m x) _ _ f) ∙ elim (cases_Bool (m == x)) [
    | inl t ↦ ap (λ ys. is_member ys q) (cond-true (m == x) (x ∷ xs) _ t) ∙ or_same (x == q) (is_member xs q) ∙ ap (λ v. (v == q) || is_member (x ∷ xs) q) (sym (eqb-true m x t))
    | inr g ↦ ap (λ ys. is_member ys q) (cond-false (m == x) _ _ g) ∙ ap (λ b. (x == q) || b) (member_with m xs q) ∙ or_swap (x == q) (m == q) (is_member xs q)
  ]
]

pub member_set : (xs : List ℕ) (q : ℕ) → is_member (set_of xs) q ≡ is_member xs q
member_set [] q = refl
member_set (x ∷ xs) q = member_with x (set_of xs) q ∙ ap (λ b. (x == q) || b) (member_set xs q)

pub member_map : (r : ℕ) (xs : List ℕ) (q : ℕ) → is_member (map (skip r) xs) (skip r q) ≡ is_member xs q
member_map r [] q = refl
member_map r (x ∷ xs) q = ap (λ b. b || is_member (map (skip r) xs) (skip r q)) (skip_eq r x q) ∙ ap (λ b. (x == q) || b) (member_map r xs q)

pub member_map_not : (r : ℕ) (xs : List ℕ) → is_member (map (skip r) xs) r ≡ false
member_map_not r [] = refl
member_map_not r (x ∷ xs) = or_from _ _ (ne_eqb (skip r x) r (skip_not r x)) (member_map_not r xs)

-- a member of what is renamed again
pub again_member : (r : ℕ) (rest xs : List ℕ) (q : ℕ) → is_member (whole_again r rest xs) (skip r q) ≡ is_member xs q
again_member r rest xs q = elim (cases_Bool (list_all (is_member xs) rest)) [
  | inl t ↦ ap (λ ys. is_member ys (skip r q)) (cond-true _ (with_member r (map (skip r) xs)) _ t) ∙ member_with r (map (skip r) xs) (skip r q)
      ∙ ap (λ b. b || is_member (map (skip r) xs) (skip r q)) (ne_eqb r (skip r q) (λ s. skip_not r q (sym s))) ∙ member_map r xs q
  | inr f ↦ ap (λ ys. is_member ys (skip r q)) (cond-false _ _ (map (skip r) xs) f) ∙ member_map r xs q
]

pub again_member_r : (r : ℕ) (rest xs : List ℕ) → is_member (whole_again r rest xs) r ≡ list_all (is_member xs) rest
again_member_r r rest xs = elim (cases_Bool (list_all (is_member xs) rest)) [
  | inl t ↦ ap (λ ys. is_member ys r) (cond-true _ (with_member r (map (skip r) xs)) _ t) ∙ member_with r (map (skip r) xs) r
      ∙ ap (λ b. b || is_member (map (skip r) xs) r) (eq-eqb r r refl) ∙ sym t
  | inr f ↦ ap (λ ys. is_member ys r) (cond-false _ _ (map (skip r) xs) f) ∙ member_map_not r xs ∙ sym f
]

pub rises_again : (r : ℕ) (rest xs : List ℕ) → Rises xs → Rises (whole_again r rest xs)
rises_again r rest xs a = elim (cases_Bool (list_all (is_member xs) rest)) [
  | inl t ↦ subst Rises (sym (cond-true _ (with_member r (map (skip r) xs)) _ t)) (rises_with r (map (skip r) xs) (rises_map r xs a))
  | inr f ↦ subst Rises (sym (cond-false _ _ (map (skip r) xs) f)) (rises_map r xs a)
]

-- groups: who is in one
abbrev pub plays : Option ℕ → ℕ → Bool
plays None role = false
plays (Some x) role = x == role

member_suc : (xs : List ℕ) (q : ℕ) → is_member (map suc xs) (suc q) ≡ is_member xs q
member_suc [] q = refl
member_suc (x ∷ xs) q = ap (λ b. b || is_member (map suc xs) (suc q)) (skip_eq 0 x q) ∙ ap (λ b. (x == q) || b) (member_suc xs q)

member_suc_zero : (xs : List ℕ) → is_member (map suc xs) 0 ≡ false
member_suc_zero xs = member_map_not 0 xs

pub group_member : (role : ℕ) (roles : List ℕ) (q : ℕ) → is_member (group role roles) q ≡ plays (slice_get roles q) role
group_member role [] q = refl
group_member role (x ∷ xs) zero = elim (cases_Bool (x == role)) [
  | inl t ↦ ap (λ ys. is_member (ys ++ map suc (group role xs)) 0) (cond-true (x == role) (0 ∷ []) [] t) ∙ sym t
  | inr f ↦ ap (λ ys. is_member (ys ++ map suc (group role xs)) 0) (cond-false (x == role) (0 ∷ []) [] f) ∙ member_suc_zero (group role xs) ∙ sym f
]
group_member role (x ∷ xs) (suc q) = elim (cases_Bool (x == role)) [
  | inl t ↦ ap (λ ys. is_member (ys ++ map suc (group role xs)) (suc q)) (cond-true (x == role) (0 ∷ []) [] t)
      ∙ ap (λ b. b || is_member (map suc (group role xs)) (suc q)) (ne_eqb 0 (suc q) (λ s. omega (arith, s))) ∙ member_suc (group role xs) q ∙ group_member role xs q
  | inr f ↦ ap (λ ys. is_member (ys ++ map suc (group role xs)) (suc q)) (cond-false (x == role) (0 ∷ []) [] f) ∙ member_suc (group role xs) q ∙ group_member role xs q
]

above_suc : (k : ℕ) (xs : List ℕ) → Above k xs → Above (suc k) (map suc xs)
above_suc k xs a = above_map 0 k xs a

zero_below : (xs : List ℕ) → Above 0 (map suc xs)
zero_below [] = tt
zero_below (x ∷ xs) = (omega arith, zero_below xs)

pub rises_group : (role : ℕ) (roles : List ℕ) → Rises (group role roles)
rises_group role [] = tt
rises_group role (x ∷ xs) = elim (cases_Bool (x == role)) [
  | inl t ↦ subst (λ ys. Rises (ys ++ map suc (group role xs))) (sym (cond-true (x == role) (0 ∷ []) [] t)) (zero_below (group role xs), rises_map 0 (group role xs) (rises_group role xs))
  | inr f ↦ subst (λ ys. Rises (ys ++ map suc (group role xs))) (sym (cond-false (x == role) (0 ∷ []) [] f)) (rises_map 0 (group role xs) (rises_group role xs))
]

-- three that rise aren't two
pub not_two : (xs : List ℕ) (p e : ℕ) → Rises xs → 3 ≤ length xs → ((x : ℕ) → is_member xs x ≡ true → (x ≡ p) ⊎ (x ≡ e)) → ⊥
not_two [] p e r three two = omega (arith, three)
not_two (x ∷ []) p e r three two = omega (arith, three)
not_two (x ∷ (y ∷ [])) p e r three two = omega (arith, three)
not_two (x ∷ (y ∷ (z ∷ zs))) p e r three two =
    let xy = r.0.0 in
    let yz = r.1.0.0 in
    let a = two x (or_left _ _ (eq-eqb x x refl)) in
    let b = two y (or_right _ _ (or_left _ _ (eq-eqb y y refl))) in
    let c = two z (or_right _ _ (or_right _ _ (or_left _ _ (eq-eqb z z refl)))) in
    elim a [
      | inl ap' ↦ elim b [ inl bp ↦ omega (arith, ap', bp, xy) | inr be ↦ elim c [ inl cp ↦ omega (arith, ap', cp, xy, yz) | inr ce ↦ omega (arith, be, ce, yz) ] ]
      | inr ae ↦ elim b [ inr be ↦ omega (arith, ae, be, xy) | inl bp ↦ elim c [ inr ce ↦ omega (arith, ae, ce, xy, yz) | inl cp ↦ omega (arith, bp, cp, yz) ] ]
    ]

pub filter_length : (r : ℕ) (xs : List ℕ) → Rises xs → length xs ≤ suc (length (filter (λ e. not (e == r)) xs))
filter_length r [] a = omega arith
filter_length r (x ∷ xs) a = elim (cases_eq x r) [
  | inr ne ↦ (let s : length (filter (λ e. not (e == r)) (x ∷ xs)) ≡ suc (length (filter (λ e. not (e == r)) xs)) = ap length (cond-true _ (x ∷ filter (λ e. not (e == r)) xs) _ (ap not (ne_eqb x r ne))) in
      let rest = filter_length r xs a.1 in omega (arith, s, rest))
  | inl e ↦ (let s : length (filter (λ e. not (e == r)) (x ∷ xs)) ≡ length xs = ap length (cond-false _ (x ∷ filter (λ e. not (e == r)) xs) _ (ap not (eq-eqb x r e)) ∙ all_else xs (subst (λ k. Above k xs) e a.0)) in
      omega (arith, s))
]
  where
    all_else : (ys : List ℕ) → Above r ys → filter (λ e. not (e == r)) ys ≡ ys
    all_else [] above = refl
    all_else (y ∷ ys) above = cond-true _ _ _ (ap not (ne_eqb y r (λ s. let l = above.0 in omega (arith, l, s)))) ∙ ap (λ zs. y ∷ zs) (all_else ys above.1)

length_map : (f : ℕ → ℕ) (xs : List ℕ) → length (map f xs) ≡ length xs
length_map f [] = refl
length_map f (x ∷ xs) = ap suc (length_map f xs)

-- of four at least three are left
pub three_left : (role r : ℕ) (roles : List ℕ) → 4 ≤ length (group role roles) → 3 ≤ length (group role (without r roles))
three_left role r roles four =
    let a = filter_length r (group role roles) (rises_group role roles) in
    let b : length (group role (without r roles)) ≡ length (filter (λ e. not (e == r)) (group role roles)) = sym (length_map (skip r) (group role (without r roles))) ∙ ap length (group_skip role r roles) in
    omega (arith, four, a, b)

-- one rank fewer
module _ (pattern : Pattern) (cast : Cast) (r role : ℕ) (can : CanGo pattern cast r role) where
  abbrev pub less : Cast
  less = restricted r cast

  abbrev pub left : List ℕ
  left = group role (without r cast.roles)

  -- a role of one process alone isn't r's, and its process stays
  pub single_other : (other : ℕ) → pattern.single other ≡ true → other ≡ role → ⊥
  single_other other single s =
      let w = can.cast_is.only other single in
      let four = can.four in
      let n : length (group role cast.roles) ≡ 1 = ap (λ v. length (group v cast.roles)) (sym s) ∙ ap length w.1 in
      omega (arith, four, n)

  r_plays : (other : ℕ) → is_member (group other cast.roles) r ≡ (role == other)
  r_plays other = group_member other cast.roles r ∙ ap (λ o. plays o other) can.is

  pub single_stays : (other : ℕ) → pattern.single other ≡ true → (q : ℕ) × (group other less.roles ≡ q ∷ []) × (group other cast.roles ≡ skip r q ∷ [])
  single_stays other single =
      let w = can.cast_is.only other single in
      let away : w.0 ≡ r → ⊥ = λ s. single_other other single (sym (eqb-true role other
      (sym (r_plays other) ∙ ap (λ ys. is_member ys r) w.1 ∙ or_left _ _ (eq-eqb w.0 r s)))) in
      let kept : map (skip r) (group other (without r cast.roles)) ≡ w.0 ∷ [] =
      group_skip other r cast.roles ∙ ap (filter (λ e. not (e == r))) w.1 ∙ cond-true _ _ _ (ap not (ne_eqb w.0 r away)) in
      go (group other (without r cast.roles)) refl kept w.1
    where
      go : (ys : List ℕ) → group other (without r cast.roles) ≡ ys → {x : ℕ} → map (skip r) ys ≡ x ∷ [] → group other cast.roles ≡ x ∷ [] →
          (q : ℕ) × (group other less.roles ≡ q ∷ []) × (group other cast.roles ≡ skip r q ∷ [])
      go [] is k w = cc
      go (y ∷ []) is k w = (y, is, w ∙ sym k)
      go (y ∷ (z ∷ zs)) is k w = cc

  -- who a line names
  pub who_same : (p e : ℕ) (w : Who) → KnowsWho pattern.single w → who cast (skip r p) (skip r e) w ≡ skip r (who less p e w)
  who_same p e (Only other) known = let s = single_stays other known in ap (λ ys. get_or ys 0 0) s.2 ∙ sym (ap (λ ys. skip r (get_or ys 0 0)) s.1)
  who_same p e Self known = refl
  who_same p e Each known = refl

  -- the members of a set
  pub member_group : (other q : ℕ) → is_member (group other cast.roles) (skip r q) ≡ is_member (group other less.roles) q
  member_group other q = group_member other cast.roles (skip r q) ∙ ap (λ o. plays o other) (sym (without_get r cast.roles q)) ∙ sym (group_member other less.roles q)

  item_same : (p e : ℕ) (item : Item) → KnowsItem pattern.single item → (q : ℕ) → is_member (item_members cast (skip r p) (skip r e) item) (skip r q) ≡ is_member (item_members less p e item) q
  item_same p e (Every other) known q = member_group other q
  item_same p e (One w) known q = ap (λ v. (v == skip r q) || false) (who_same p e w known) ∙ ap (λ b. b || false) (skip_eq r (who less p e w) q)

  pub items_same : (p e : ℕ) (items : List Item) → KnowsItems pattern.single items → (q : ℕ) →
      is_member (members_in cast (skip r p) (skip r e) items) (skip r q) ≡ is_member (members_in less p e items) q
  items_same p e [] known q = refl
  items_same p e (item ∷ items) known q =
      list_any-append _ (item_members cast (skip r p) (skip r e) item) _
      ∙ ap (λ b. b || is_member (members_in cast (skip r p) (skip r e) items) (skip r q)) (item_same p e item known.0 q)
      ∙ ap (λ b. is_member (item_members less p e item) q || b) (items_same p e items known.1 q)
      ∙ sym (list_any-append _ (item_members less p e item) _)

  -- r is in the sets that have its whole role
  pub items_r : (p e : ℕ) (items : List Item) → KnowsItems pattern.single items → is_member (members_in cast (skip r p) (skip r e) items) r ≡ has_every role items
  items_r p e [] known = refl
  items_r p e (Every other ∷ items) known =
      list_any-append _ (group other cast.roles) _
      ∙ ap (λ b. b || is_member (members_in cast (skip r p) (skip r e) items) r) (r_plays other ∙ same_other)
      ∙ ap (λ b. (other == role) || b) (items_r p e items known.1)
    where
      same_other : (role == other) ≡ (other == role)
      same_other = elim (cases_eq role other) [ inl s ↦ eq-eqb role other s ∙ sym (eq-eqb other role (sym s)) | inr ne ↦ ne_eqb role other ne ∙ sym (ne_eqb other role (λ s. ne (sym s))) ]
  items_r p e (One w ∷ items) known =
      ap (λ b. b || is_member (members_in cast (skip r p) (skip r e) items) r) (ne_eqb (who cast (skip r p) (skip r e) w) r (λ s. skip_not r (who less p e w) (sym (who_same p e w known.0) ∙ s)))
      ∙ items_r p e items known.1

  -- without the whole role there are at most two of it
  of_two : (p e : ℕ) (items : List Item) → KnowsItems pattern.single items → has_every role items ≡ false → (q : ℕ) → is_member left q ≡ true → is_member (members_in less p e items) q ≡ true →
      (q ≡ p) ⊎ (q ≡ e)
  of_two p e [] known none q i m = absurd (true≢false (sym m))
  of_two p e (Every other ∷ items) known none q i m =
      let parts = or_parts _ _ none in
      elim (or_cases _ _ (sym (list_any-append _ (group other less.roles) _) ∙ m)) [
        | inr rest ↦ of_two p e items known.1 parts.1 q i rest
        | inl here ↦ absurd (not_both (slice_get less.roles q) (sym (group_member role less.roles q) ∙ i) (sym (group_member other less.roles q) ∙ here) parts.0)
      ]
    where
      not_both : (o : Option ℕ) → plays o role ≡ true → plays o other ≡ true → (other == role) ≡ false → ⊥
      not_both None a b f = true≢false (sym a)
      not_both (Some x) a b f = true≢false (sym (eq-eqb other role (sym (eqb-true x other b) ∙ eqb-true x role a)) ∙ f)
  of_two p e (One (Only other) ∷ items) known none q i m = elim (or_cases _ _ m) [
    | inr rest ↦ of_two p e items known.1 none q i rest
    | inl here ↦ absurd (
        let s = single_stays other known.0 in
        let at : q ≡ s.0 = sym (eqb-true _ _ here) ∙ ap (λ ys. get_or ys 0 0) s.1 in
        let plays_other : plays (slice_get less.roles q) other ≡ true = sym (group_member other less.roles q) ∙ ap (λ ys. is_member ys q) s.1 ∙ or_left _ _ (eq-eqb s.0 q (sym at)) in
        not_both (slice_get less.roles q) (sym (group_member role less.roles q) ∙ i) plays_other)
  ]
    where
      not_both : (o : Option ℕ) → plays o role ≡ true → plays o other ≡ true → ⊥
      not_both None a b = true≢false (sym a)
      not_both (Some x) a b = single_other other known.0 (sym (eqb-true x other b) ∙ eqb-true x role a)
  of_two p e (One Self ∷ items) known none q i m = elim (or_cases _ _ m) [ inr rest ↦ of_two p e items known.1 none q i rest | inl here ↦ inl (sym (eqb-true p q here)) ]
  of_two p e (One Each ∷ items) known none q i m = elim (or_cases _ _ m) [ inr rest ↦ of_two p e items known.1 none q i rest | inl here ↦ inr (sym (eqb-true e q here)) ]

  every_in : (p e : ℕ) (items : List Item) → has_every role items ≡ true → (q : ℕ) → is_member left q ≡ true → is_member (members_in less p e items) q ≡ true
  every_in p e [] all q i = absurd (true≢false (sym all))
  every_in p e (Every other ∷ items) all q i = elim (or_cases _ _ all) [
    | inl here ↦ list_any-append _ (group other less.roles) _ ∙ or_left _ _ (ap (λ v. is_member (group v less.roles) q) (eqb-true other role here) ∙ i)
    | inr rest ↦ list_any-append _ (group other less.roles) _ ∙ or_right _ _ (every_in p e items rest q i)
  ]
  every_in p e (One w ∷ items) all q i = or_right _ _ (every_in p e items all q i)

  pub whole_test : (p e : ℕ) (items : List Item) → KnowsItems pattern.single items → list_all (is_member (set_of (members_in less p e items))) left ≡ has_every role items
  whole_test p e items known = elim (cases_Bool (has_every role items)) [
    | inl t ↦ list_all_of_members _ left (λ q i. member_set (members_in less p e items) q ∙ every_in p e items t q i) ∙ sym t
    | inr f ↦ false_from_ne_true _ (λ all. not_two left p e (rises_group role less.roles) (three_left role r cast.roles can.four)
        (λ q i. of_two p e items known f q i (sym (member_set (members_in less p e items) q) ∙ list_all_at_member _ left q all i))) ∙ sym f
  ]

  -- the set of a fence
  pub sets_same : (p e : ℕ) (items : List Item) → KnowsItems pattern.single items →
      whole_again r left (set_of (members_in less p e items)) ≡ set_of (members_in cast (skip r p) (skip r e) items)
  sets_same p e items known =
      same_set _ _ (rises_again r left _ (rises_set (members_in less p e items))) (rises_set (members_in cast (skip r p) (skip r e) items)) (λ q. elim (cases_eq q r) [
        | inl s ↦ ap (is_member (whole_again r left (set_of (members_in less p e items)))) s ∙ again_member_r r left _ ∙ whole_test p e items known
            ∙ sym (ap (is_member (set_of (members_in cast (skip r p) (skip r e) items))) s ∙ member_set (members_in cast (skip r p) (skip r e) items) r ∙ items_r p e items known)
        | inr ne ↦
            (let there = skip_back r q ne in
            ap (is_member (whole_again r left (set_of (members_in less p e items)))) (sym there) ∙ again_member r left _ (back r q) ∙ member_set (members_in less p e items) (back r q)
            ∙ sym (ap (is_member (set_of (members_in cast (skip r p) (skip r e) items))) (sym there) ∙ member_set (members_in cast (skip r p) (skip r e) items) (skip r (back r q))
            ∙ items_same p e items known (back r q)))
      ])
