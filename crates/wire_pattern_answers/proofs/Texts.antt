-- What four writes have written.
use Rattle.std.proofs.Common.{◌≡◌, ◌∙◌, ap, ℕ, List, ◌++◌}
use Rattle.std.proofs.lemmas.List.{append_assoc}

pub four : (out a b c all w x y z : List ℕ) → a ≡ out ++ w → b ≡ a ++ x → c ≡ b ++ y → all ≡ c ++ z → all ≡ out ++ (w ++ (x ++ (y ++ z)))
four out a b c all w x y z first second third last =
    last ∙ ap (λ t. t ++ z) (third ∙ ap (λ t. t ++ y) (second ∙ ap (λ t. t ++ x) first))
    ∙ append_assoc ((out ++ w) ++ x) y z ∙ append_assoc (out ++ w) x (y ++ z) ∙ append_assoc out w (x ++ (y ++ z))
