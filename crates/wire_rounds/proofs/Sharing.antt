-- The shares of all workers are the whole deal.
use Rattle.std.proofs.Common.{◌≡◌, ◌≢◌, ℕ, zero, suc, ◌+◌, ◌%◌, ◌<◌, ◌≤◌, ◌==◌, true, false, if◌then◌else◌, [], ◌∷◌, length, refl, ap, arith, length-append, add-one, ◌⊎◌, inl, inr}
use Rattle.std.proofs.lemmas.Bool.Decides.{nat_tests}
use Rattle.wire_rounds.specs.declared.rule.Piece.{Piece}
use Rattle.wire_rounds.specs.Rules.{weigh}
use Rattle.wire_rounds.specs.Shares.{piece, deal_of, share_of}
use Rattle.wire_rounds.proofs.Deals.{weigh-append}

nat_cases : (a b : ℕ) → (a ≡ b) ⊎ (a ≢ b)
nat_cases zero zero = inl refl
nat_cases zero (suc b) = inr (λ e. omega arith)
nat_cases (suc a) zero = inr (λ e. omega arith)
nat_cases (suc a) (suc b) = elim (nat_cases a b) [ inl e ↦ inl (ap suc e) | inr n ↦ inr (λ e. n (omega arith)) ]

below : (a m : ℕ) → a < suc m → a ≢ m → a < m
below a m h n = omega arith

short : (a m : ℕ) → a ≤ suc m → a ≢ suc m → a ≤ m
short a m h n = omega arith

miss : (h : Piece → ℕ) (x : Piece) (r e : ℕ) → r ≢ e → weigh h (if r == e then x ∷ [] else []) ≡ 0
miss h x r e n = let f : (r == e) ≡ false = grind (arith, nat_tests) in rw f refl

hit : (h : Piece → ℕ) (x : Piece) (r e : ℕ) → r ≡ e → weigh h (if r == e then x ∷ [] else []) ≡ h x
hit h x r e n = let f : (r == e) ≡ true = grind (arith, nat_tests) in rw f (omega arith)

-- the weight of the shares of the first m workers
pub shares : (Piece → ℕ) → ℕ → ℕ → ℕ → ℕ → ℕ
shares h zero workers round n = 0
shares h (suc m) workers round n = shares h m workers round n + weigh h (share_of m workers round n)

-- where the turn of the piece comes later, no share of the first m workers grows
shares_before : (h : Piece → ℕ) (m workers round n : ℕ) → m ≤ n % workers → shares h m workers round (suc n) ≡ shares h m workers round n
unfolding shares
shares_before h zero workers round n late = refl
shares_before h (suc m) workers round n late =
    let apart : (n % workers) ≢ m = λ e. omega arith in
    omega (
      arith,
      shares_before h m workers round n (omega arith),
      weigh-append h (share_of m workers round n) (if (n % workers) == m then piece n round ∷ [] else []),
      miss h (piece n round) (n % workers) m apart,
    )

shares_after : (h : Piece → ℕ) (m workers round n : ℕ) → n % workers < m → shares h m workers round (suc n) ≡ shares h m workers round n + h (piece n round)
unfolding shares
shares_after h zero workers round n late = absurd (omega arith)
shares_after h (suc m) workers round n late =
    elim (nat_cases (n % workers) m) [
      | inl here ↦ omega (
        arith,
        shares_before h m workers round n (omega arith),
        weigh-append h (share_of m workers round n) (if (n % workers) == m then piece n round ∷ [] else []),
        hit h (piece n round) (n % workers) m here,
      )
      | inr apart ↦ omega (
        arith,
        shares_after h m workers round n (below (n % workers) m late apart),
        weigh-append h (share_of m workers round n) (if (n % workers) == m then piece n round ∷ [] else []),
        miss h (piece n round) (n % workers) m apart,
      )
    ]

shares_nothing : (h : Piece → ℕ) (m workers round : ℕ) → shares h m workers round 0 ≡ 0
unfolding shares
shares_nothing h zero workers round = refl
shares_nothing h (suc m) workers round = omega (arith, shares_nothing h m workers round)

pub shares_all : (h : Piece → ℕ) (workers round n : ℕ) → 0 < workers → shares h workers workers round n ≡ weigh h (deal_of round n)
shares_all h workers round zero some = shares_nothing h workers workers round
shares_all h workers round (suc n) some =
    omega (arith, shares_after h workers workers round n (omega arith), shares_all h workers round n some, weigh-append h (deal_of round n) (piece n round ∷ []))

pub shares_zero : (h : Piece → ℕ) (workers round n : ℕ) → shares h 0 workers round n ≡ 0
unfolding shares
shares_zero h workers round n = refl

pub shares_suc : (h : Piece → ℕ) (m workers round n : ℕ) → shares h (suc m) workers round n ≡ shares h m workers round n + weigh h (share_of m workers round n)
unfolding shares
shares_suc h m workers round n = refl

pub shares_more : (h : Piece → ℕ) (m workers round n : ℕ) → shares h (m + 1) workers round n ≡ shares h m workers round n + weigh h (share_of m workers round n)
unfolding shares
shares_more h m workers round n = rw add-one refl

-- fewer workers have no more
pub shares_within : (h : Piece → ℕ) (m k workers round n : ℕ) → m ≤ k → shares h m workers round n ≤ shares h k workers round n
unfolding shares
shares_within h m zero workers round n less = let e : m ≡ 0 = omega arith in rw e (omega arith)
shares_within h m (suc k) workers round n less =
    elim (nat_cases m (suc k)) [
      | inl here ↦ rw here (omega arith)
      | inr apart ↦ omega (arith, shares_within h m k workers round n (short m k less apart))
    ]

pub length_deal : (round n : ℕ) → length (deal_of round n) ≡ n
length_deal round zero = refl
length_deal round (suc n) = omega (arith, length-append (deal_of round n) (piece n round ∷ []), length_deal round n)
