-- The numbers of the processes that pass a test.
use Rattle.std.proofs.Common.{◌≡◌, ◌∙◌, ap, sym, subst, refl, ℕ, zero, suc, ◌+◌, ◌<◌, ◌≤◌, List, [], ◌∷◌, Bool, true, false, Some, length, arith, if◌then◌else◌}
use Rattle.std.specs.Prelude.{nat_lt, ◌==◌, ◌||◌, slice_get}
use Rattle.std.specs.List.{list_all}
use Rattle.std.proofs.lemmas.Bool.{lt-ltb}
use Rattle.std.proofs.Math.Bool.{or-true}
use borrow.Author.Tests.{eq-eqb}
use Rattle.wire_runs.specs.Plan.{with_member, set_of}
use Rattle.wire_runs.specs.Fences.{is_member}
use Rattle.wire_reader.specs.FirstPass.{Started}
use Rattle.wire_reader.specs.Reads.{places_from}

-- two tests that agree
pub places_same : (f g : Started → Bool) → ((p : Started) → f p ≡ g p) → (n : ℕ) (ps : List Started) → places_from f n ps ≡ places_from g n ps
places_same f g e n [] = refl
places_same f g e n (p ∷ ps) =
    ap (λ t. if t then n ∷ places_from f (n + 1) ps else places_from f (n + 1) ps) (e p)
    ∙ ap (λ l. if g p then n ∷ l else l) (places_same f g e (n + 1) ps)

-- each is below n plus the number of processes
pub places_within : (f : Started → Bool) (n bound : ℕ) (ps : List Started) → n + length ps ≤ bound → list_all (λ m. nat_lt m bound) (places_from f n ps) ≡ true
places_within f n bound [] h = refl
places_within f n bound (p ∷ ps) h =
    let rest : list_all (λ m. nat_lt m bound) (places_from f (n + 1) ps) ≡ true = places_within f (n + 1) bound ps (omega arith) in
    elim (f p) as (λ t. list_all (λ m. nat_lt m bound) (if t then n ∷ places_from f (n + 1) ps else places_from f (n + 1) ps) ≡ true) [
      | true ↦ let here : nat_lt n bound ≡ true = lt-ltb n bound (omega arith) in rw (here, rest) refl
      | false ↦ rest
    ]

-- a lower number comes first
lower_first : (f : Started → Bool) (m n : ℕ) (ps : List Started) → m < n → with_member m (places_from f n ps) ≡ m ∷ places_from f n ps
lower_first f m n [] h = refl
lower_first f m n (p ∷ ps) h =
    elim (f p) as (λ t. with_member m (if t then n ∷ places_from f (n + 1) ps else places_from f (n + 1) ps) ≡ m ∷ (if t then n ∷ places_from f (n + 1) ps else places_from f (n + 1) ps)) [
      | true ↦ let less : nat_lt m n ≡ true = lt-ltb m n h in rw less refl
      | false ↦ lower_first f m (n + 1) ps (omega arith)
    ]

-- they are a set: each once, in order
pub places_canonical : (f : Started → Bool) (n : ℕ) (ps : List Started) → set_of (places_from f n ps) ≡ places_from f n ps
places_canonical f n [] = refl
places_canonical f n (p ∷ ps) =
    let rest : set_of (places_from f (n + 1) ps) ≡ places_from f (n + 1) ps = places_canonical f (n + 1) ps in
    elim (f p) as (λ t. set_of (if t then n ∷ places_from f (n + 1) ps else places_from f (n + 1) ps) ≡ (if t then n ∷ places_from f (n + 1) ps else places_from f (n + 1) ps)) [
      | true ↦ ap (with_member n) rest ∙ lower_first f n (n + 1) ps (omega arith)
      | false ↦ rest
    ]

-- a process that passes is among them
pub places_hold : (f : Started → Bool) (n : ℕ) (ps : List Started) (i : ℕ) (p : Started) → slice_get ps i ≡ Some p → f p ≡ true → is_member (places_from f n ps) (n + i) ≡ true
places_hold f n [] i p at h = absurd (cc)
places_hold f n (x ∷ ps) zero p at h =
    let same : x ≡ p = cc in
    let passes : f x ≡ true = rw same h in
    let here : (n == n + 0) ≡ true = eq-eqb n (n + 0) (omega arith) in
    rw passes (rw here refl)
places_hold f n (x ∷ ps) (suc i) p at h =
    let rest : is_member (places_from f (n + 1) ps) (n + 1 + i) ≡ true = places_hold f (n + 1) ps i p at h in
    let one : n + suc i ≡ n + 1 + i = omega arith in
    elim (f x) as (λ t. is_member (if t then n ∷ places_from f (n + 1) ps else places_from f (n + 1) ps) (n + suc i) ≡ true) [
      | true ↦ subst (λ m. is_member (n ∷ places_from f (n + 1) ps) m ≡ true) (sym one) (ap (λ b. (n == n + 1 + i) || b) rest ∙ or-true (n == n + 1 + i))
      | false ↦ subst (λ m. is_member (places_from f (n + 1) ps) m ≡ true) (sym one) rest
    ]
