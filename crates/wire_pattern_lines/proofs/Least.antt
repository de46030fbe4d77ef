-- The words by which a group has a least size.
use Rattle.std.proofs.Common.{◌≡◌, ◌∙◌, sym, refl, List, [], ◌∷◌, ℕ, ◌≤◌, ◌<◌, ◌^◌, true, false, codes, decimal, arith, if◌then◌else◌}
use Rattle.std.specs.Prelude.{◌==◌}
use Rattle.std.proofs.lemmas.Fmt.{decimal_injective}
use borrow.Author.Tests.{eqb-false}
use Rattle.wire_pattern_lines.specs.Said.{min_words}

pub other_decimal : (word : List ℕ) (m n : ℕ) → word ≡ decimal m → m < 10 ^ 9 → word ≡ decimal n → n ≤ 9 → m ≡ n
other_decimal word m n e small f few = decimal_injective m n (omega arith) (omega arith) (sym e ∙ f)

-- two words that say a least size
pub min_shown : (n : ℕ) (first number : List ℕ) → first ∷ number ∷ [] ≡ min_words n → (first ≡ codes "min") × (number ≡ decimal n) × (1 ≤ n)
min_shown n first number =
    elim (n == 0) as (λ t. (n == 0) ≡ t → first ∷ number ∷ [] ≡ (if t then [] else codes "min" ∷ decimal n ∷ []) → (first ≡ codes "min") × (number ≡ decimal n) × (1 ≤ n)) [
      | true ↦ λ e h. cc
      | false ↦ λ e h. let some = eqb-false n 0 e in (cc, cc, omega arith)
    ] refl
