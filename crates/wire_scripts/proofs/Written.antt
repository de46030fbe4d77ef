-- A line grows by one word.
use Rattle.std.proofs.Common.{◌≡◌, ◌∙◌, ap, sym, refl, ℕ, ◌+◌, ◌<◌, List, [], ◌∷◌, ◌++◌, length, append_assoc, arith, take, get_or}
use Rattle.std.proofs.lemmas.Grind.{common_steps}
use Rattle.std.specs.Borrow.{Bor}
use Rattle.std.specs.List.{join_with_byte}
use Rattle.wire_types.specs.Texts.{texts_of}

join_push : (w : List ℕ) (ws : List (List ℕ)) (v : List ℕ) → join_with_byte 32 (w ∷ (ws ++ v ∷ [])) ≡ join_with_byte 32 (w ∷ ws) ++ (32 ∷ v)
join_push w [] v = refl
join_push w (x ∷ xs) v = ap (λ t. w ++ (32 ∷ t)) (join_push x xs v) ∙ sym (append_assoc w (32 ∷ join_with_byte 32 (x ∷ xs)) (32 ∷ v))

take_push : (ws : List (Bor (List ℕ))) (i : ℕ) (d : Bor (List ℕ)) → i < length ws → texts_of (take (i + 1) ws) ≡ texts_of (take i ws) ++ (get_or ws i d).now ∷ []
take_push ws i d h = grind (arith, common_steps)

-- one more word of a line
pub one_word : (old out w : List ℕ) (ws : List (Bor (List ℕ))) (i : ℕ) (d : Bor (List ℕ)) → i < length ws → out ≡ old ++ join_with_byte 32 (w ∷ texts_of (take i ws))
    → (out ++ 32 ∷ []) ++ (get_or ws i d).now ≡ old ++ join_with_byte 32 (w ∷ texts_of (take (i + 1) ws))
one_word old out w ws i d h e =
    append_assoc out (32 ∷ []) (get_or ws i d).now
    ∙ ap (λ t. t ++ (32 ∷ (get_or ws i d).now)) e
    ∙ append_assoc old (join_with_byte 32 (w ∷ texts_of (take i ws))) (32 ∷ (get_or ws i d).now)
    ∙ ap (λ t. old ++ t) (sym (join_push w (texts_of (take i ws)) (get_or ws i d).now) ∙ ap (λ t. join_with_byte 32 (w ∷ t)) (sym (take_push ws i d h)))
