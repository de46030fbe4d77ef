-- The bytes of a text as they are shown are printable.
use Rattle.std.proofs.Common.{◌≡◌, ◌∙◌, ap, refl, ℕ, Bool, true, false, List, [], ◌∷◌, map, if◌then◌else◌}
use Rattle.wire_explain.specs.Quote.{is_printable, shown_byte, is_printable_text}

shown_once : (b : ℕ) → is_printable (shown_byte b) ≡ true
shown_once b = go (is_printable b) refl
  where
    go : (t : Bool) → is_printable b ≡ t → is_printable (if t then b else 63) ≡ true
    go true is = is
    go false is = refl

all_printable : (xs : List ℕ) → is_printable_text (map shown_byte xs) ≡ true
all_printable [] = refl
all_printable (x ∷ xs) = rw (shown_once x, all_printable xs) refl

pub shown_is_printable : (xs ys : List ℕ) → ys ≡ map shown_byte xs → is_printable_text ys ≡ true
shown_is_printable xs ys is = ap is_printable_text is ∙ all_printable xs
