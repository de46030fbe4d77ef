-- Lines of ranks, one after the other.
use Rattle.std.proofs.Common.{◌≡◌, ◌∙◌, ◌<◌, ◌≤◌, ◌+◌, ℕ, List, [], ◌∷◌, ◌++◌, length, get_or, sym, ap, drop, append_assoc, take, take_all, ◌-◌, min, arith, inl, inr}
use Rattle.std.proofs.lemmas.Bool.{cases_lt}
use Rattle.std.proofs.lemmas.List.{at_drop_more, append-nil}
use Rattle.std.proofs.Math.ListN.{drop_of_length-le}
use Rattle.wire_runs.specs.State.{State}
use Rattle.wire_scripts.specs.Scripts.{Scripts}
use Rattle.wire_standstill.specs.Lines.{line_of, lines_of}

pub lined_more : (scripts : Scripts) (s : State) (ranks : List ℕ) (i : ℕ) (d : ℕ) (out new all : List ℕ) → i < length ranks →
    out ++ lines_of scripts s (drop i ranks) ≡ all → new ≡ out ++ line_of scripts s (get_or ranks i d) → new ++ lines_of scripts s (drop (i + 1) ranks) ≡ all
lined_more scripts s ranks i d out new all low so_far is =
    let rest = lines_of scripts s (drop (i + 1) ranks) in
    ap (λ xs. xs ++ rest) is ∙ append_assoc out (line_of scripts s (get_or ranks i d)) rest
    ∙ ap (λ xs. out ++ xs) (sym (at_drop_more (lines_of scripts s) ranks i d low)) ∙ so_far

pub lined_all : (scripts : Scripts) (s : State) (ranks : List ℕ) (i : ℕ) (out all : List ℕ) → length ranks ≤ i → out ++ lines_of scripts s (drop i ranks) ≡ all → out ≡ all
lined_all scripts s ranks i out all past so_far = sym (append-nil out) ∙ ap (λ xs. out ++ lines_of scripts s xs) (sym (drop_of_length-le ranks past)) ∙ so_far

-- the first of a list that may have fewer
pub front_is : (xs : List ℕ) (n k : ℕ) → n ≡ min (length xs) k → take n xs ≡ take k xs
front_is xs n k is = elim (cases_lt k (length xs)) [
  | inl more ↦ let same : n ≡ k = omega (arith, is, more) in ap (λ m. take m xs) same
  | inr all ↦ let same : n ≡ length xs = omega (arith, is, all) in take_all n xs (omega (arith, same)) ∙ sym (take_all k xs all)
]

pub rest_is : (xs : List ℕ) (n k : ℕ) → n ≡ min (length xs) k → length xs - n ≡ length xs - k
rest_is xs n k is = omega (arith, is)
