-- The parts of a list of ranks, one after the other.
use Rattle.std.proofs.Common.{◌≡◌, ◌∙◌, ap, sym, ℕ, ◌+◌, ◌<◌, List, [], ◌∷◌, length, drop, drop-cons, get_or, add-one}
use Rattle.std.specs.Borrow.{Bor}
use Rattle.wire_types.specs.Texts.{texts_of}
use Rattle.wire_reader.specs.Ranks.{parts_from}

-- the next part and those after it
pub next_part : (n : ℕ) (parts : List (Bor (List ℕ))) (k : ℕ) (d : Bor (List ℕ)) → k < length parts →
    parts_from n (texts_of (drop k parts)) ≡ (n, (get_or parts k d).now ∷ []) ∷ parts_from (n + 1) (texts_of (drop (k + 1) parts))
next_part n parts k d low =
    ap (λ ps. parts_from n (texts_of ps)) (drop-cons parts k d low)
    ∙ ap (λ m. (n, (get_or parts k d).now ∷ []) ∷ parts_from (n + 1) (texts_of (drop m parts))) (sym (add-one k))
