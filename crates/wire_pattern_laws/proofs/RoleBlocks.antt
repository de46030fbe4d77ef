-- Processes in the order of their roles stand in blocks.
use Rattle.std.proofs.Common.{◌≡◌, ℕ, zero, suc, ◌+◌, ◌<◌, ◌≤◌, List, [], ◌∷◌, ◌++◌, map, length, ◌==◌, Some, inl, inr, refl, sym, ap, ◌∙◌, subst, arith, eq-eqb, ne_eqb}
use Rattle.std.specs.Prelude.{slice_get, replicate, if◌then◌else◌}
use Rattle.std.proofs.lemmas.List.{length-map}
use Rattle.std.proofs.lemmas.Bool.{cond-true, cond-false, cases_eq, cases_lt}
use Rattle.std.proofs.lemmas.Option.{none-some, same_Some}
use Rattle.wire_runs.specs.Patterns.{group}
use Rattle.wire_pattern_laws.specs.Ordered.{DontFall, in_blocks, OrderIsBlocks}

-- how often a number stands in a list
count : ℕ → List ℕ → ℕ
count role [] = 0
count role (x ∷ xs) = if x == role then suc (count role xs) else count role xs

count_here : (role x : ℕ) (xs : List ℕ) → x ≡ role → count role (x ∷ xs) ≡ suc (count role xs)
unfolding count
count_here role x xs s = cond-true (x == role) (suc (count role xs)) (count role xs) (eq-eqb x role s)

count_not : (role x : ℕ) (xs : List ℕ) → (x ≡ role → ⊥) → count role (x ∷ xs) ≡ count role xs
unfolding count
count_not role x xs ne = cond-false (x == role) (suc (count role xs)) (count role xs) (ne_eqb x role ne)

group_count : (role : ℕ) (xs : List ℕ) → length (group role xs) ≡ count role xs
unfolding count
group_count role [] = refl
group_count role (x ∷ xs) = elim (cases_eq x role) [
  | inl s ↦ ap (λ ys. length (ys ++ map suc (group role xs))) (cond-true (x == role) (0 ∷ []) [] (eq-eqb x role s)) ∙ ap suc (length-map (group role xs) suc ∙ group_count role xs)
      ∙ sym (count_here role x xs s)
  | inr ne ↦ ap (λ ys. length (ys ++ map suc (group role xs))) (cond-false (x == role) (0 ∷ []) [] (ne_eqb x role ne)) ∙ length-map (group role xs) suc ∙ group_count role xs
      ∙ sym (count_not role x xs ne)
]

count_both : (role : ℕ) (xs ys : List ℕ) → count role (xs ++ ys) ≡ count role xs + count role ys
unfolding count
count_both role [] ys = omega arith
count_both role (x ∷ xs) ys = elim (cases_eq x role) [
  | inl s ↦ (let a = count_here role x (xs ++ ys) s in let b = count_here role x xs s in let c = count_both role xs ys in omega (arith, a, b, c))
  | inr ne ↦ (let a = count_not role x (xs ++ ys) ne in let b = count_not role x xs ne in let c = count_both role xs ys in omega (arith, a, b, c))
]

count_block : (role k : ℕ) → count role (replicate k role) ≡ k
unfolding count
count_block role zero = refl
count_block role (suc k) = count_here role role (replicate k role) refl ∙ ap suc (count_block role k)

count_other : (role other k : ℕ) → (other ≡ role → ⊥) → count role (replicate k other) ≡ 0
unfolding count
count_other role other zero ne = refl
count_other role other (suc k) ne = count_not role other (replicate k other) ne ∙ count_other role other k ne

-- all numbers of a list below a bound
abbrev Below : ℕ → List ℕ → Type 0
Below bound [] = Unit {0}
Below bound (x ∷ xs) = (x < bound) × Below bound xs

below_all : (bound : ℕ) (xs : List ℕ) → ((p x : ℕ) → slice_get xs p ≡ Some x → x < bound) → Below bound xs
below_all bound [] all = tt
below_all bound (x ∷ xs) all = (all 0 x refl, below_all bound xs (λ p y is. all (suc p) y is))

all_below : (bound : ℕ) (xs : List ℕ) → Below bound xs → (p x : ℕ) → slice_get xs p ≡ Some x → x < bound
all_below bound [] b p x is = absurd (none-some x is)
all_below bound (y ∷ xs) b zero x is = subst (λ v. v < bound) (same_Some _ _ is) b.0
all_below bound (y ∷ xs) b (suc p) x is = all_below bound xs b.1 p x is

below_more : (bound more : ℕ) (xs : List ℕ) → bound ≤ more → Below bound xs → Below more xs
below_more bound more [] le b = tt
below_more bound more (x ∷ xs) le b = ((let l = b.0 in omega (arith, le, l)), below_more bound more xs le b.1)

below_both : (bound : ℕ) (xs ys : List ℕ) → Below bound xs → Below bound ys → Below bound (xs ++ ys)
below_both bound [] ys a b = b
below_both bound (x ∷ xs) ys a b = (a.0, below_both bound xs ys a.1 b)

below_block : (role k : ℕ) → Below (suc role) (replicate k role)
below_block role zero = tt
below_block role (suc k) = (omega arith, below_block role k)

count_below : (role : ℕ) (xs : List ℕ) → Below role xs → count role xs ≡ 0
unfolding count
count_below role [] b = refl
count_below role (x ∷ xs) b = count_not role x xs (λ s. let l = b.0 in omega (arith, l, s)) ∙ count_below role xs b.1

-- blocks are told by their sizes
blocks_agree : (f g : ℕ → ℕ) (bound : ℕ) → ((role : ℕ) → role < bound → f role ≡ g role) → in_blocks f bound ≡ in_blocks g bound
blocks_agree f g zero same = refl
blocks_agree f g (suc role) same =
    ap (λ xs. xs ++ replicate (f role) role) (blocks_agree f g role (λ r lt. same r (omega (arith, lt)))) ∙ ap (λ k. in_blocks g role ++ replicate k role) (same role (omega arith))

-- the last block
all_last : (n : ℕ) (xs : List ℕ) → DontFall n xs → Below (suc n) xs → xs ≡ replicate (length xs) n
all_last n [] d b = refl
all_last n (x ∷ xs) d b =
    let s : x ≡ n = (let lo = d.0 in let hi = b.0 in omega (arith, lo, hi)) in
    ap (λ v. v ∷ xs) s ∙ ap (λ vs. n ∷ vs) (all_last n xs (subst (λ v. DontFall v xs) s d.1) b.1)

pub record Split (first n : ℕ) (xs : List ℕ) : Type 0 where
  pub rest : List ℕ
  pub size : ℕ
  pub is : xs ≡ rest ++ replicate size n
  pub order : DontFall first rest
  pub below : Below n rest

split : (first n : ℕ) (xs : List ℕ) → DontFall first xs → Below (suc n) xs → Split first n xs
split first n [] d b = record { rest = []; size = 0; is = refl; order = tt; below = tt }
split first n (x ∷ xs) d b = elim (cases_lt x n) [
  | inl lt ↦ (let s = split x n xs d.1 b.1 in record { rest = x ∷ s.rest; size = s.size; is = ap (λ ys. x ∷ ys) s.is; order = (d.0, s.order); below = (lt, s.below) })
  | inr ge ↦ (
      let at : x ≡ n = (let hi = b.0 in omega (arith, ge, hi)) in
      record {
        rest = [];
        size = suc (length xs);
        is = ap (λ v. v ∷ xs) at ∙ ap (λ ys. n ∷ ys) (all_last n xs (subst (λ v. DontFall v xs) at d.1) b.1);
        order = tt;
        below = tt;
      })
]

to_blocks : (bound : ℕ) (xs : List ℕ) → DontFall 0 xs → Below bound xs → xs ≡ in_blocks (λ role. count role xs) bound
to_blocks zero [] d b = refl
to_blocks zero (x ∷ xs) d b = absurd (let l = b.0 in omega (arith, l))
to_blocks (suc n) xs d b =
    let s = split 0 n xs d b in
    let last : count n xs ≡ s.size = ap (count n) s.is ∙ count_both n s.rest (replicate s.size n) ∙ (let a = count_below n s.rest s.below in let c = count_block n s.size in omega (arith, a, c)) in
    s.is ∙ ap (λ ys. ys ++ replicate s.size n) (to_blocks n s.rest s.order s.below
    ∙ blocks_agree (λ role. count role s.rest) (λ role. count role xs) n (λ role lt.
    sym (ap (count role) s.is ∙ count_both role s.rest (replicate s.size n) ∙ (let c = count_other role n s.size (λ e. omega (arith, lt, e)) in omega (arith, c)))))
    ∙ ap (λ k. in_blocks (λ role. count role xs) n ++ replicate k n) (sym last)

-- and back
order_block : (first n k : ℕ) → first ≤ n → DontFall first (replicate k n)
order_block first n zero le = tt
order_block first n (suc k) le = (le, order_block n n k (omega arith))

order_more : (first n k : ℕ) (xs : List ℕ) → first ≤ n → DontFall first xs → Below n xs → DontFall first (xs ++ replicate k n)
order_more first n k [] le d b = order_block first n k le
order_more first n k (x ∷ xs) le d b = (d.0, order_more x n k xs (let l = b.0 in omega (arith, l)) d.1 b.1)

blocks_below : (size : ℕ → ℕ) (bound : ℕ) → Below bound (in_blocks size bound)
blocks_below size zero = tt
blocks_below size (suc n) = below_both (suc n) (in_blocks size n) (replicate (size n) n) (below_more n (suc n) (in_blocks size n) (omega arith) (blocks_below size n)) (below_block n (size n))

blocks_order : (size : ℕ → ℕ) (bound : ℕ) → DontFall 0 (in_blocks size bound)
blocks_order size zero = tt
blocks_order size (suc n) = order_more 0 n (size n) (in_blocks size n) (omega arith) (blocks_order size n) (blocks_below size n)

blocks_sizes : (size : ℕ → ℕ) (bound role : ℕ) → role < bound → count role (in_blocks size bound) ≡ size role
blocks_sizes size zero role lt = absurd (omega (arith, lt))
blocks_sizes size (suc n) role lt = elim (cases_eq n role) [
  | inl s ↦ subst (λ v. count v (in_blocks size n ++ replicate (size n) n) ≡ size v) s
      (count_both n (in_blocks size n) (replicate (size n) n) ∙ (let a = count_below n (in_blocks size n) (blocks_below size n) in let b = count_block n (size n) in omega (arith, a, b)))
  | inr ne ↦ count_both role (in_blocks size n) (replicate (size n) n)
      ∙ (let a = blocks_sizes size n role (omega (arith, lt, ne)) in let b = count_other role n (size n) ne in omega (arith, a, b))
]

pub order_is_blocks : OrderIsBlocks
order_is_blocks bound cast = record {
  blocks = λ o. to_blocks bound cast.roles o.order (below_all bound cast.roles o.below)
      ∙ blocks_agree (λ role. count role cast.roles) (λ role. length (group role cast.roles)) bound (λ role lt. sym (group_count role cast.roles));
  order = λ size is. record {
    order = subst (λ roles. DontFall 0 roles) (sym is) (blocks_order size bound);
    below = all_below bound cast.roles (subst (λ roles. Below bound roles) (sym is) (blocks_below size bound));
  };
  sizes = λ size is role lt. group_count role cast.roles ∙ ap (count role) is ∙ blocks_sizes size bound role lt;
}
