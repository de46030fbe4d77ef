-- Numbers with one left out, and what is left of a group.
use Rattle.std.proofs.Common.{◌≡◌, ℕ, zero, suc, ◌<◌, List, [], ◌∷◌, ◌++◌, map, Bool, not, ◌==◌, nat_lt, inl, inr, refl, sym, ap, ◌∙◌, arith, ne_eqb}
use Rattle.std.specs.Prelude.{slice_get, filter}
use Rattle.std.proofs.lemmas.Bool.{cond-true, cond-false, cases_eq, cases_lt, cases_Bool, lt-ltb, le-ltb}
use Rattle.std.proofs.lemmas.List.Elements.{filter_agree}
use Rattle.wire_runs.specs.Patterns.{group}
use Rattle.wire_runs.specs.Restrictions.{skip, back, without}
use Rattle.wire_runs.proofs.Images.{same_test}

pub back_skip : (r p : ℕ) → back r (skip r p) ≡ p
back_skip zero p = refl
back_skip (suc r) zero = refl
back_skip (suc r) (suc p) = ap suc (back_skip r p)

pub skip_back : (r e : ℕ) → (e ≡ r → ⊥) → skip r (back r e) ≡ e
skip_back zero zero ne = absurd (ne refl)
skip_back zero (suc e) ne = refl
skip_back (suc r) zero ne = refl
skip_back (suc r) (suc e) ne = ap suc (skip_back r e (λ s. ne (ap suc s)))

pub skip_not : (r p : ℕ) → skip r p ≡ r → ⊥
skip_not zero p s = absurd (omega (arith, s))
skip_not (suc r) zero s = absurd (omega (arith, s))
skip_not (suc r) (suc p) s = skip_not r p (omega (arith, s))

pub skip_one : (r p q : ℕ) → skip r p ≡ skip r q → p ≡ q
skip_one r p q s = sym (back_skip r p) ∙ ap (back r) s ∙ back_skip r q

pub skip_up : (r p q : ℕ) → p < q → skip r p < skip r q
skip_up zero p q lt = omega (arith, lt)
skip_up (suc r) p zero lt = absurd (omega (arith, lt))
skip_up (suc r) zero (suc q) lt = omega arith
skip_up (suc r) (suc p) (suc q) lt = let rest = skip_up r p q (omega (arith, lt)) in omega (arith, rest)

pub skip_lt : (r p q : ℕ) → nat_lt (skip r p) (skip r q) ≡ nat_lt p q
skip_lt r p q = elim (cases_lt p q) [
  | inl lt ↦ lt-ltb _ _ (skip_up r p q lt) ∙ sym (lt-ltb _ _ lt)
  | inr ge ↦ le-ltb _ _ (elim (cases_eq q p) [
    | inl e ↦ (let s = ap (skip r) e in omega (arith, s))
    | inr ne ↦ (let up = skip_up r q p (omega (arith, ge, ne)) in omega (arith, up))
  ]) ∙ sym (le-ltb _ _ ge)
]

pub skip_eq : (r p q : ℕ) → (skip r p == skip r q) ≡ (p == q)
skip_eq r p q = same_test (skip r) p q (skip_one r p q)

pub without_get : (r : ℕ) (xs : List ℕ) (p : ℕ) → slice_get (without r xs) p ≡ slice_get xs (skip r p)
without_get r [] p = refl
without_get zero (x ∷ xs) p = refl
without_get (suc r) (x ∷ xs) zero = refl
without_get (suc r) (x ∷ xs) (suc p) = without_get r xs p

pub filter_map : (f : ℕ → Bool) (g : ℕ → ℕ) (xs : List ℕ) → filter f (map g xs) ≡ map g (filter (λ x. f (g x)) xs)
filter_map f g [] = refl
filter_map f g (x ∷ xs) = elim (cases_Bool (f (g x))) [
  | inl t ↦ cond-true _ _ _ t ∙ ap (λ ys. g x ∷ ys) (filter_map f g xs) ∙ sym (ap (map g) (cond-true _ _ _ t))
  | inr t ↦ cond-false _ _ _ t ∙ filter_map f g xs ∙ sym (ap (map g) (cond-false _ _ _ t))
]

pub filter_comm : (f g : ℕ → Bool) (xs : List ℕ) → filter f (filter g xs) ≡ filter g (filter f xs)
filter_comm f g [] = refl
filter_comm f g (x ∷ xs) = elim (cases_Bool (f x)) [
  | inl t ↦ elim (cases_Bool (g x)) [
    | inl u ↦ ap (filter f) (cond-true _ _ _ u) ∙ cond-true _ _ _ t ∙ ap (λ ys. x ∷ ys) (filter_comm f g xs) ∙ sym (ap (filter g) (cond-true _ _ _ t) ∙ cond-true _ _ _ u)
    | inr u ↦ ap (filter f) (cond-false _ _ _ u) ∙ filter_comm f g xs ∙ sym (ap (filter g) (cond-true _ _ _ t) ∙ cond-false _ _ _ u)
  ]
  | inr t ↦ elim (cases_Bool (g x)) [
    | inl u ↦ ap (filter f) (cond-true _ _ _ u) ∙ cond-false _ _ _ t ∙ filter_comm f g xs ∙ sym (ap (filter g) (cond-false _ _ _ t))
    | inr u ↦ ap (filter f) (cond-false _ _ _ u) ∙ filter_comm f g xs ∙ sym (ap (filter g) (cond-false _ _ _ t))
  ]
]

pub map_map : (f g : ℕ → ℕ) (xs : List ℕ) → map f (map g xs) ≡ map (λ x. f (g x)) xs
map_map f g [] = refl
map_map f g (x ∷ xs) = ap (λ ys. f (g x) ∷ ys) (map_map f g xs)

all_stay : (xs : List ℕ) → filter (λ e. not (e == 0)) (map suc xs) ≡ map suc xs
all_stay [] = refl
all_stay (x ∷ xs) = cond-true _ _ _ (ap not (ne_eqb (suc x) 0 (λ s. omega (arith, s)))) ∙ ap (λ ys. suc x ∷ ys) (all_stay xs)

suc_test : (r e : ℕ) → not (suc e == suc r) ≡ not (e == r)
suc_test r e = ap not (same_test suc e r (λ s. omega (arith, s)))

-- the group without r
pub group_skip : (role r : ℕ) (roles : List ℕ) → map (skip r) (group role (without r roles)) ≡ filter (λ e. not (e == r)) (group role roles)
group_skip role r [] = refl
group_skip role zero (x ∷ xs) = elim (cases_Bool (x == role)) [
  | inl t ↦ sym (ap (λ ys. filter (λ e. not (e == 0)) (ys ++ map suc (group role xs))) (cond-true (x == role) (0 ∷ []) [] t) ∙ all_stay (group role xs))
  | inr t ↦ sym (ap (λ ys. filter (λ e. not (e == 0)) (ys ++ map suc (group role xs))) (cond-false (x == role) (0 ∷ []) [] t) ∙ all_stay (group role xs))
]
group_skip role (suc r) (x ∷ xs) =
    let rest : map (skip (suc r)) (map suc (group role (without r xs))) ≡ filter (λ e. not (e == suc r)) (map suc (group role xs)) =
    map_map (skip (suc r)) suc (group role (without r xs)) ∙ sym (map_map suc (skip r) (group role (without r xs))) ∙ ap (map suc) (group_skip role r xs)
    ∙ ap (map suc) (filter_agree _ _ (λ e. sym (suc_test r e)) (group role xs)) ∙ sym (filter_map (λ e. not (e == suc r)) suc (group role xs)) in
    elim (cases_Bool (x == role)) [
      | inl t ↦ ap (λ ys. map (skip (suc r)) (ys ++ map suc (group role (without r xs)))) (cond-true (x == role) (0 ∷ []) [] t) ∙ ap (λ ys. 0 ∷ ys) rest
          ∙ sym (ap (λ ys. filter (λ e. not (e == suc r)) (ys ++ map suc (group role xs))) (cond-true (x == role) (0 ∷ []) [] t)
          ∙ cond-true _ _ _ (ap not (ne_eqb 0 (suc r) (λ s. omega (arith, s)))))
      | inr t ↦ ap (λ ys. map (skip (suc r)) (ys ++ map suc (group role (without r xs)))) (cond-false (x == role) (0 ∷ []) [] t) ∙ rest
          ∙ sym (ap (λ ys. filter (λ e. not (e == suc r)) (ys ++ map suc (group role xs))) (cond-false (x == role) (0 ∷ []) [] t))
    ]
