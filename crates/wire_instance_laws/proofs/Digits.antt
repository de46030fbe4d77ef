-- A text from its number.
use Rattle.std.proofs.Common.{◌≡◌, ◌∙◌, ap, refl, ℕ, zero, suc, ◌+◌, ◌*◌, ◌/◌, ◌%◌, ◌<◌, ◌≤◌, List, [], ◌∷◌, true, arith}
use Rattle.std.specs.Prelude.{nat_le}
use Rattle.std.specs.List.{list_all}
use borrow.Author.Tests.{leb-true}
use Rattle.wire_types.specs.Said.{is_word_byte}
use Rattle.wire_lines.proofs.Colon.{and_left, and_right}
use Rattle.wire_pattern.specs.Planned.{text_number}
use Rattle.wire_instance_laws.proofs.Roles.{EachOf}

-- the text of a number, of at most so many bytes
abbrev pub text_from : ℕ → ℕ → List ℕ
text_from zero n = []
text_from (suc k) zero = []
text_from (suc k) (suc n) = n % 257 ∷ text_from k (n / 257)

abbrev pub text_by_number : ℕ → List ℕ
text_by_number n = text_from n n

first_digit : (b x : ℕ) → b < 257 → (b + 257 * x) % 257 ≡ b
first_digit b x low = omega (arith, low)

other_digits : (b x : ℕ) → b < 257 → (b + 257 * x) / 257 ≡ x
other_digits b x low = omega (arith, low)

number_more : (b x : ℕ) → suc b + 257 * x ≡ suc (b + 257 * x)
number_more b x = omega arith

less_left : (b x k : ℕ) → suc b + 257 * x ≤ suc k → x ≤ k
less_left b x k le = omega (arith, le)

from_number : (k : ℕ) (bs : List ℕ) → EachOf (λ b. b < 257) bs → text_number bs ≤ k → text_from k (text_number bs) ≡ bs
from_number zero [] h le = refl
from_number (suc k) [] h le = refl
from_number zero (b ∷ bs) h le = absurd (none b (text_number bs) le)
  where
    none : (b x : ℕ) → suc b + 257 * x ≤ 0 → ⊥
    none b x le = omega (arith, le)
from_number (suc k) (b ∷ bs) h le =
    let x = text_number bs in
    ap (text_from (suc k)) (number_more b x)
    ∙ (λ i. first_digit b x h.0 i ∷ text_from k (other_digits b x h.0 i))
    ∙ ap (λ t. b ∷ t) (from_number k bs h.1 (less_left b x k le))

bytes_low : (bs : List ℕ) → list_all is_word_byte bs ≡ true → EachOf (λ b. b < 257) bs
bytes_low [] h = tt
bytes_low (b ∷ bs) h =
    let low : b ≤ 126 = leb-true b 126 (and_right (nat_le 33 b) _ (and_left _ _ h)) in
    (omega (arith, low), bytes_low bs (and_right (is_word_byte b) _ h))

pub text_back : (bs : List ℕ) → list_all is_word_byte bs ≡ true → text_by_number (text_number bs) ≡ bs
text_back bs h = from_number (text_number bs) bs (bytes_low bs h) (omega arith)
