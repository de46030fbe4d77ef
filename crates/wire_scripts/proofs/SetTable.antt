-- Lists of processes are the same where their numbers are.
use Rattle.std.proofs.Common.{◌≡◌, ap, refl, List, [], ◌∷◌, ◌==◌, Bool}
use Rattle.std.specs.Prelude.{◌&&◌}
use Rattle.std.specs.Str.{bytes_eq}
use lib.Pointwise.{pointwise}
use Rattle.wire_types.specs.declared.Proc.{Proc}
use Rattle.wire_scripts.specs.Scripts.{numbers_of}

abbrev pub same_procs : List Proc → List Proc → Bool
same_procs = pointwise (λ a b. a.number == b.number)

pub same_numbers : (xs ys : List Proc) → same_procs xs ys ≡ bytes_eq (numbers_of xs) (numbers_of ys)
same_numbers [] [] = refl
same_numbers [] (y ∷ ys) = refl
same_numbers (x ∷ xs) [] = refl
same_numbers (x ∷ xs) (y ∷ ys) = ap (λ b. (x.number == y.number) && b) (same_numbers xs ys)
