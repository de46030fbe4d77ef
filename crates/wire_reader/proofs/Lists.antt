-- Lists that are mapped: a test of all, moved to what holds them, and one more element.
use Rattle.std.proofs.Common.{◌≡◌, ap, refl, ℕ, ◌+◌, ◌<◌, List, [], ◌∷◌, ◌++◌, Bool, map, take, length, get_or, arith}
use Rattle.std.specs.Prelude.{◌&&◌}
use Rattle.std.specs.List.{list_all}
use Rattle.std.proofs.lemmas.Grind.{common_steps}

pub all_of : {V N : Type 0} (f : V → N) (p : N → Bool) (vs : List V) → list_all (λ v. p (f v)) vs ≡ list_all p (map f vs)
all_of f p [] = refl
all_of f p (v ∷ vs) = ap (λ b. p (f v) && b) (all_of f p vs)

-- one more element of a list that is mapped twice
pub mapped_more : {A B C : Type 0} (h : B → C) (f : A → B) (out : List C) (xs : List A) (i : ℕ) (x d : A) → i < length xs → x ≡ get_or xs i d → out ≡ map h (map f (take i xs))
    → out ++ h (f x) ∷ [] ≡ map h (map f (take (i + 1) xs))
mapped_more h f out xs i x d lt is e = grind (arith, common_steps)
