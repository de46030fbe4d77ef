-- The labels of the first findings, and of one more.
use Rattle.std.proofs.Common.{◌≡◌, ◌∙◌, ap, sym, ℕ, suc, ◌+◌, List, [], ◌∷◌, ◌++◌, map, take, Some, arith}
use Rattle.std.specs.Prelude.{slice_get}
use Rattle.std.proofs.lemmas.List.{map-append}
use Rattle.wire_runs.proofs.Lists.{take_get}

pub with_one : {X Y : Type 0} (f : X → Y) (xs : List X) (i : ℕ) (x : X) (labels : List Y) (label : Y) → slice_get xs i ≡ Some x → labels ≡ map f (take i xs) → label ≡ f x →
    labels ++ label ∷ [] ≡ map f (take (i + 1) xs)
with_one f xs i x labels label there so_far is =
    let later : suc i ≡ i + 1 = omega arith in
    (λ k. so_far k ++ is k ∷ []) ∙ sym (map-append f (take i xs) (x ∷ [])) ∙ ap (map f) (sym (take_get xs i x there)) ∙ ap (λ n. map f (take n xs)) later
