-- Ranges of numbers, and tests over them.
use Rattle.std.proofs.Common.{◌≡◌, ◌∙◌, ap, sym, refl, ℕ, zero, suc, ◌+◌, ◌-◌, ◌<◌, ◌≤◌, ◌==◌, inl, inr, append-nil, [], ◌∷◌, ◌++◌, Bool, true, false, not, map, filter, arith, add-zero, zero-add}
use Rattle.std.specs.Prelude.{nat_lt}
use Rattle.std.specs.List.{range_with_len}
use Rattle.std.proofs.lemmas.List.Elements.{filter-append}
use Rattle.std.proofs.lemmas.Bool.{eq-eqb, ne_eqb, cases_eq}
use Rattle.wire_runs.specs.Fences.{is_member}
use Rattle.std.proofs.lemmas.Bool.Decides.{nat_tests}

-- a range begins with its first number
pub opened : (a n : ℕ) → a < n → range_with_len a (n - a) ≡ a ∷ range_with_len (a + 1) (n - (a + 1))
opened a n h = let e : n - a ≡ suc (n - (a + 1)) = omega (arith, h) in rw e refl

pub map_suc : (a n : ℕ) → map suc (range_with_len a n) ≡ range_with_len (suc a) n
map_suc a zero = refl
map_suc a (suc n) = ap (λ xs. suc a ∷ xs) (map_suc (a + 1) n ∙ ap (λ b. range_with_len b n) (omega arith))

-- a range in two parts
pub parted : (a m n : ℕ) → range_with_len a (m + n) ≡ range_with_len a m ++ range_with_len (a + m) n
parted a zero n = rw (zero-add n, add-zero a) refl
parted a (suc m) n =
    let e : suc m + n ≡ suc (m + n) = omega arith in
    let f : (a + 1) + m ≡ a + suc m = omega arith in
    rw e (ap (λ xs. a ∷ xs) (parted (a + 1) m n ∙ ap (λ b. range_with_len (a + 1) m ++ range_with_len b n) f))

pub filter_none : (p : ℕ → Bool) (a n : ℕ) → ((x : ℕ) → a ≤ x → x < a + n → p x ≡ false) → filter p (range_with_len a n) ≡ []
filter_none p a zero h = refl
filter_none p a (suc n) h =
    rw (h a (omega arith) (omega arith)) (filter_none p (a + 1) n (λ x l u. h x (omega (arith, l)) (omega (arith, u))))

pub filter_all : (p : ℕ → Bool) (a n : ℕ) → ((x : ℕ) → a ≤ x → x < a + n → p x ≡ true) → filter p (range_with_len a n) ≡ range_with_len a n
filter_all p a zero h = refl
filter_all p a (suc n) h =
    rw (h a (omega arith) (omega arith)) (ap (λ xs. a ∷ xs) (filter_all p (a + 1) n (λ x l u. h x (omega (arith, l)) (omega (arith, u)))))

pub is_lt : (a b : ℕ) → a < b → nat_lt a b ≡ true
is_lt a b h = grind (arith, nat_tests)

not_lt : (a b : ℕ) → b ≤ a → nat_lt a b ≡ false
not_lt a b h = grind (arith, nat_tests)

differs : (a b : ℕ) → (a ≡ b → ⊥) → not (a == b) ≡ true
differs a b h = rw (ne_eqb a b h) refl

-- the middle of a range
middle : (f k n : ℕ) → range_with_len f (k + suc n) ≡ range_with_len f k ++ ((f + k) ∷ range_with_len ((f + k) + 1) n)
middle f k n = parted f k (suc n)

above : (f k n : ℕ) → filter (nat_lt (f + k)) (range_with_len f (k + suc n)) ≡ range_with_len ((f + k) + 1) n
above f k n =
    ap (filter (nat_lt (f + k))) (middle f k n)
    ∙ filter-append (nat_lt (f + k)) (range_with_len f k) ((f + k) ∷ range_with_len ((f + k) + 1) n)
    ∙ ap (λ xs. xs ++ filter (nat_lt (f + k)) ((f + k) ∷ range_with_len ((f + k) + 1) n)) (filter_none (nat_lt (f + k)) f k (λ x l u. not_lt (f + k) x (omega (arith, l, u))))
    ∙ rw (not_lt (f + k) (f + k) (omega arith)) (filter_all (nat_lt (f + k)) ((f + k) + 1) n (λ x l u. is_lt (f + k) x (omega (arith, l, u))))

below : (f k n : ℕ) → filter (λ x. nat_lt x (f + k)) (range_with_len f (k + suc n)) ≡ range_with_len f k ++ []
below f k n =
    ap (filter (λ x. nat_lt x (f + k))) (middle f k n)
    ∙ filter-append (λ x. nat_lt x (f + k)) (range_with_len f k) ((f + k) ∷ range_with_len ((f + k) + 1) n)
    ∙ ap (λ xs. xs ++ filter (λ x. nat_lt x (f + k)) ((f + k) ∷ range_with_len ((f + k) + 1) n)) (filter_all (λ x. nat_lt x (f + k)) f k (λ x l u. is_lt x (f + k) (omega (arith, l, u))))
    ∙ rw (not_lt (f + k) (f + k) (omega arith)) (ap (λ xs. range_with_len f k ++ xs) (filter_none (λ x. nat_lt x (f + k)) ((f + k) + 1) n (λ x l u. not_lt x (f + k) (omega (arith, l, u)))))

-- those behind v and those before v, of a range with v
pub around : (f e v : ℕ) → f ≤ v → v < e
    → filter (nat_lt v) (range_with_len f (e - f)) ++ filter (λ x. nat_lt x v) (range_with_len f (e - f))
    ≡ filter (λ x. not (x == v)) (range_with_len (v + 1) (e - (v + 1))) ++ filter (λ x. not (x == v)) (range_with_len f (v - f))
around f e v l u =
    let n : e - f ≡ (v - f) + suc (e - (v + 1)) = omega (arith, l, u) in
    let m : f + (v - f) ≡ v = omega (arith, l) in
    let up : filter (nat_lt v) (range_with_len f ((v - f) + suc (e - (v + 1)))) ≡ range_with_len (v + 1) (e - (v + 1)) =
    ap (λ w. filter (nat_lt w) (range_with_len f ((v - f) + suc (e - (v + 1))))) (sym m) ∙ above f (v - f) (e - (v + 1)) ∙ ap (λ w. range_with_len (w + 1) (e - (v + 1))) m in
    let down : filter (λ x. nat_lt x v) (range_with_len f ((v - f) + suc (e - (v + 1)))) ≡ range_with_len f (v - f) ++ [] =
    ap (λ w. filter (λ x. nat_lt x w) (range_with_len f ((v - f) + suc (e - (v + 1))))) (sym m) ∙ below f (v - f) (e - (v + 1)) in
    let same_up = filter_all (λ x. not (x == v)) (v + 1) (e - (v + 1)) (λ x a b. differs x v (λ q. omega (arith, q, a))) in
    let same_down = filter_all (λ x. not (x == v)) f (v - f) (λ x a b. differs x v (λ q. omega (arith, q, a, b, l))) in
    ap (λ k. filter (nat_lt v) (range_with_len f k) ++ filter (λ x. nat_lt x v) (range_with_len f k)) n
    ∙ ap (λ t. t ++ filter (λ x. nat_lt x v) (range_with_len f ((v - f) + suc (e - (v + 1))))) up
    ∙ ap (λ t. range_with_len (v + 1) (e - (v + 1)) ++ t) (down ∙ append-nil (range_with_len f (v - f)))
    ∙ sym (ap (λ t. t ++ filter (λ x. not (x == v)) (range_with_len f (v - f))) same_up ∙ ap (λ t. range_with_len (v + 1) (e - (v + 1)) ++ t) same_down)

pub member_inside : (a n v : ℕ) → a ≤ v → v < a + n → is_member (range_with_len a n) v ≡ true
member_inside a zero v l u = absurd (omega (arith, l, u))
member_inside a (suc n) v l u = elim (cases_eq a v) [
  | inl e ↦ rw (eq-eqb a v e) refl
  | inr ne ↦ rw (ne_eqb a v ne) (member_inside (a + 1) n v (omega (arith, l, ne)) (omega (arith, u)))
]

pub member_outside : (a n v : ℕ) → ((a ≤ v) → v < a + n → ⊥) → is_member (range_with_len a n) v ≡ false
member_outside a zero v h = refl
member_outside a (suc n) v h =
    rw (ne_eqb a v (λ e. h (omega (arith, e)) (omega (arith, e)))) (member_outside (a + 1) n v (λ l u. h (omega (arith, l)) (omega (arith, u))))
