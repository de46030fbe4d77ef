-- A number that is cut at a limit after each digit is the number of all digits, cut at it.
use Rattle.std.proofs.Common.{◌≡◌, ◌∙◌, ap, sym, ℕ, ◌+◌, ◌*◌, ◌-◌, ◌<◌, ◌≤◌, ◌⊎◌, List, [], ◌∷◌, min, fold, drop, length, slice_index_or, arith, refl, suc, inl, inr}
use Rattle.std.proofs.Math.Seq.{drop-cons}
use Rattle.std.proofs.lemmas.Bool.{cases_lt}
use Rattle.std.proofs.Math.Nat.{min-eq_left, min-eq_right}

abbrev more : ℕ → ℕ → ℕ
more n digit = n * 10 + (digit - 48)

-- cutting before a digit makes no difference after it
one_more : (m n k : ℕ) → min (min n m * 10 + k) m ≡ min (n * 10 + k) m
one_more m n k = go (cases_lt n m)
  where
    go : (n < m) ⊎ (m ≤ n) → min (min n m * 10 + k) m ≡ min (n * 10 + k) m
    go (inl below) = let same : min n m ≡ n = min-eq_left (omega (arith, below)) in rw same refl
    go (inr above) =
        let cut : min n m ≡ m = min-eq_right above in
        let low : m ≤ m * 10 + k = omega arith in
        let high : m ≤ n * 10 + k = omega (arith, above) in
        rw (cut, min-eq_right low, min-eq_right high) refl

none_more : (m n : ℕ) → min (min n m) m ≡ min n m
none_more m n = go (cases_lt n m)
  where
    go : (n < m) ⊎ (m ≤ n) → min (min n m) m ≡ min n m
    go (inl below) = let same : min n m ≡ n = min-eq_left (omega (arith, below)) in rw (same, same) refl
    go (inr above) =
        let cut : min n m ≡ m = min-eq_right above in
        let low : m ≤ m = omega arith in
        rw cut (min-eq_left low)

-- nor after all others
pub capped : (m : ℕ) (digits : List ℕ) (n : ℕ) → min (fold more (min n m) digits) m ≡ min (fold more n digits) m
capped m [] n = none_more m n
capped m (digit ∷ digits) n =
    sym (capped m digits (more (min n m) digit)) ∙ ap (λ k. min (fold more k digits) m) (one_more m n (digit - 48)) ∙ capped m digits (more n digit)

-- one more digit of them
pub said_on : (m : ℕ) (digits : List ℕ) (i number value result total : ℕ) → i < length digits → value ≡ slice_index_or digits i 0 - 48 → result ≡ min (number * 10 + value) m
    → min (fold more number (drop i digits)) m ≡ total → min (fold more result (drop (i + 1) digits)) m ≡ total
said_on m digits i number value result total there is at so_far =
    let next : suc i ≡ i + 1 = omega arith in
    let opened : drop i digits ≡ slice_index_or digits i 0 ∷ drop (i + 1) digits = drop-cons digits i 0 there ∙ ap (λ n. slice_index_or digits i 0 ∷ drop n digits) next in
    let later = drop (i + 1) digits in
    let grown : result ≡ min (more number (slice_index_or digits i 0)) m = at ∙ ap (λ k. min (number * 10 + k) m) is in
    ap (λ n. min (fold more n later) m) grown ∙ capped m later (more number (slice_index_or digits i 0)) ∙ sym (ap (λ ds. min (fold more number ds) m) opened) ∙ so_far
