-- Texts that are told apart by their numbers.
use Rattle.std.specs.Prelude.{◌≡◌, ◌<◌, ℕ, List, length}
use Rattle.wire_scripts.specs.Scripts.{text_at}

-- no text is there twice
abbrev pub AreDistinct : List (List ℕ) → Type 0
AreDistinct texts = (m n : ℕ) → m < length texts → n < length texts → text_at texts m ≡ text_at texts n → m ≡ n
