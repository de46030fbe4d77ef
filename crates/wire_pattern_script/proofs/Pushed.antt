-- Lists that grow by what is made of one more element.
use Rattle.std.proofs.Common.{◌≡◌, ◌∙◌, ap, sym, ℕ, ◌+◌, ◌<◌, List, [], ◌∷◌, ◌++◌, map, length, drop, get_or, append_assoc}
use Rattle.std.proofs.lemmas.List.{map-append, drop_more}

pub one_pushed : {A B C D : Type 0} (v : C → B) (h : D → B) (f : A → D) (out : List C) (old : List B) (xs : List A) (i : ℕ) (y : C) (x d : A)
    → i < length xs → x ≡ get_or xs i d → map v out ++ map h (map f (drop i xs)) ≡ old → v y ≡ h (f x)
    → map v (out ++ y ∷ []) ++ map h (map f (drop (i + 1) xs)) ≡ old
one_pushed v h f out old xs i y x d lt is so_far same =
    ap (λ l. l ++ map h (map f (drop (i + 1) xs))) (map-append v out (y ∷ []))
    ∙ append_assoc (map v out) (v y ∷ []) (map h (map f (drop (i + 1) xs)))
    ∙ ap (λ b. map v out ++ b ∷ map h (map f (drop (i + 1) xs))) (same ∙ ap (λ z. h (f z)) is)
    ∙ ap (λ l. map v out ++ map h (map f l)) (sym (drop_more xs i d lt)) ∙ so_far
