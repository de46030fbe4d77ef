-- What a chain of threads gives, number by number.
use Rattle.std.proofs.Common.{◌≡◌, ◌+◌, ℕ, zero, suc, List, [], ◌∷◌, length, map, Some, Ok, Err, refl, arith, subst, ap}
use Rattle.std.specs.Prelude.{slice_get, Result, Vec, IfOk, MatchResult}
use Rattle.std.specs.List.{AllZip, Contains, range_with_len}
use Rattle.std.proofs.lemmas.Option.{none-some, same_Some}

module _ {Y : Type 0} (E : Type 0) (R : ℕ → Y → Type 0) where
  -- where each call answered `Ok`, there is a result for each number
  gathered_length : (a n : ℕ) (ys : List Y) → AllZip (λ k (r : Result Y E). IfOk r (R k)) (range_with_len a n) (map Ok ys) → length ys ≡ n
  gathered_length a zero [] h = refl
  gathered_length a zero (y ∷ ys) h = absurd h
  gathered_length a (suc n) [] h = absurd h
  gathered_length a (suc n) (y ∷ ys) h = ap suc (gathered_length (a + 1) n ys h.1)

  -- and it is what is said of that number
  gathered_at : (a n : ℕ) (ys : List Y) → AllZip (λ k (r : Result Y E). IfOk r (R k)) (range_with_len a n) (map Ok ys)
      → (i k : ℕ) (y : Y) → slice_get ys i ≡ Some y → a + i ≡ k → R k y
  gathered_at a zero [] h i k y e at = absurd (none-some y e)
  gathered_at a zero (z ∷ ys) h i k y e at = absurd h
  gathered_at a (suc n) [] h i k y e at = absurd h
  gathered_at a (suc n) (z ∷ ys) h zero k y e at =
      let same : a ≡ k = omega (arith, at) in
      subst (λ m. R m y) same (subst (R a) (same_Some z y e) h.0)
  gathered_at a (suc n) (z ∷ ys) h (suc i) k y e at = gathered_at (a + 1) n ys h.1 i k y e (omega (arith, at))

  module _ {A : Type 0} where
    -- what `collect` gives of calls at the numbers from 0 that may fail, where none did
    pub gathered : (n : ℕ) (r : Result (Vec Y A) E) (xs : List (Result Y E)) → AllZip (λ k x. IfOk x (R k)) (range_with_len 0 n) xs
        → MatchResult r (λ v. (ys : List Y) × (xs ≡ map Ok ys) × (v.items ≡ ys)) (λ e. Contains xs (Err e))
        → IfOk r (λ v. (length v.items ≡ n) × ((k : ℕ) (y : Y) → slice_get v.items k ≡ Some y → R k y))
    gathered n (Err e) xs h m = tt
    gathered n (Ok v) xs h m =
        let all = rw m.1 at h in
        rw m.2 (gathered_length 0 n m.0 all, λ k y e. gathered_at 0 n m.0 all k k y e (omega arith))
