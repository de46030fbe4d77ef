-- A list that is told to be empty.
use Rattle.std.proofs.Common.{◌≡◌, List, [], ◌∷◌, length, true, ◌==◌, refl, eqb-true, arith}

pub none_there : {A : Type 0} (xs : List A) → (length xs == 0) ≡ true → xs ≡ []
none_there [] h = refl
none_there (x ∷ xs) h = absurd (omega (arith, eqb-true (length (x ∷ xs)) 0 h))
