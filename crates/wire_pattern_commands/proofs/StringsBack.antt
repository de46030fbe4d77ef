-- A text is what its string says.
use Rattle.std.proofs.Common.{◌≡◌, ◌∙◌, ap, refl, subst, sym, ℕ, ◌<◌, List, [], ◌∷◌, ◌++◌, append_assoc, false, ◌⊎◌, inl, inr, flat_map, arith}
use Rattle.std.proofs.lemmas.Bool.Decides.{nat_tests}
use Rattle.wire_json.specs.Json.{escaped_byte}
use Rattle.wire_json.proofs.Escapes.{kept_byte}
use Rattle.wire_pattern_commands.specs.Strings.{TextsReadBack, string_said, text_byte}

-- what stands for a printable byte
plain_said : (b : ℕ) (bs : List ℕ) → 31 < b → b < 127 → string_said false (escaped_byte b ++ bs) ≡ b ∷ string_said false bs
plain_said b bs low high = grind (arith, nat_tests)

-- and for any byte of a text
byte_said : (b : ℕ) (bs : List ℕ) → (b ≡ 10) ⊎ ((31 < b) × (b < 127)) → string_said false (text_byte b ++ bs) ≡ b ∷ string_said false bs
byte_said b bs (inl feed) = subst (λ n. string_said false (text_byte n ++ bs) ≡ n ∷ string_said false bs) (sym feed) refl
byte_said b bs (inr shown) =
    let kept : text_byte b ≡ escaped_byte b = plain_byte b shown.0 shown.1 in
    ap (λ t. string_said false (t ++ bs)) kept ∙ plain_said b bs shown.0 shown.1
  where
    plain_byte : (n : ℕ) → 31 < n → n < 127 → text_byte n ≡ escaped_byte n
    plain_byte n low high = rw (kept_byte n low high) (grind (arith, nat_tests))

pub texts_read_back : TextsReadBack
texts_read_back [] rest h = refl
texts_read_back (b ∷ bs) rest h =
    ap (string_said false) (append_assoc (text_byte b) (flat_map text_byte bs) (34 ∷ rest))
    ∙ byte_said b (flat_map text_byte bs ++ 34 ∷ rest) h.0 ∙ ap (λ t. b ∷ t) (texts_read_back bs rest h.1)
