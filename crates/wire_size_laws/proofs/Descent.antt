-- Induction by keys.
use Rattle.std.proofs.Common.{ℕ, zero, suc, ◌<◌, inl, inr, sym, subst, arith}
use Rattle.wire_size_laws.specs.Stages.{StageKey, IsLess}

below : (P : ℕ → Type 0) → ((n : ℕ) → ((m : ℕ) → m < n → P m) → P n) → (n m : ℕ) → m < n → P m
below P f zero m lt = absurd (omega (arith, lt))
below P f (suc n) m lt = f m (λ k less. below P f n k (omega (arith, lt, less)))

strong : (P : ℕ → Type 0) → ((n : ℕ) → ((m : ℕ) → m < n → P m) → P n) → (n : ℕ) → P n
strong P f n = below P f (suc n) n (omega arith)

abbrev mk : ℕ → ℕ → ℕ → ℕ → StageKey
mk a b c d = record { one = a; two = b; three = c; four = d }

pub by_keys : (P : StageKey → Type 0) → ((k : StageKey) → ((l : StageKey) → IsLess l k → P l) → P k) → (k : StageKey) → P k
by_keys P f k =
    strong (λ a. (b c d : ℕ) → P (mk a b c d)) (λ a less_a b.
    strong (λ b. (c d : ℕ) → P (mk a b c d)) (λ b less_b c.
    strong (λ c. (d : ℕ) → P (mk a b c d)) (λ c less_c.
    strong (λ d. P (mk a b c d)) (λ d less_d. f (mk a b c d) (λ l h. go a b c d less_a less_b less_c less_d l h))) c) b) k.one k.two k.three k.four
  where
    go : (a b c d : ℕ) → ((m : ℕ) → m < a → (b c d : ℕ) → P (mk m b c d)) → ((m : ℕ) → m < b → (c d : ℕ) → P (mk a m c d)) → ((m : ℕ) → m < c → (d : ℕ) → P (mk a b m d))
        → ((m : ℕ) → m < d → P (mk a b c m)) → (l : StageKey) → IsLess l (mk a b c d) → P l
    go a b c d less_a less_b less_c less_d l (inl lt) = less_a l.one lt l.two l.three l.four
    go a b c d less_a less_b less_c less_d l (inr (s, inl lt)) = subst (λ v. P (mk v l.two l.three l.four)) (sym s) (less_b l.two lt l.three l.four)
    go a b c d less_a less_b less_c less_d l (inr (s, inr (t, inl lt))) =
        subst (λ v. P (mk v l.two l.three l.four)) (sym s) (subst (λ v. P (mk a v l.three l.four)) (sym t) (less_c l.three lt l.four))
    go a b c d less_a less_b less_c less_d l (inr (s, inr (t, inr (u, lt)))) =
        subst (λ v. P (mk v l.two l.three l.four)) (sym s) (subst (λ v. P (mk a v l.three l.four)) (sym t) (subst (λ v. P (mk a b v l.four)) (sym u) (less_d l.four lt)))
