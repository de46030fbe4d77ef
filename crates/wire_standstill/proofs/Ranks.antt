-- Ranks as JSON, one after the other.
use Rattle.std.proofs.Common.{◌≡◌, ◌∙◌, ◌<◌, ◌≤◌, ◌+◌, ℕ, List, [], ◌∷◌, ◌++◌, length, get_or, sym, ap, drop, append_assoc, min, arith}
use Rattle.std.proofs.lemmas.List.{at_drop_more, append-nil}
use Rattle.std.proofs.Math.ListN.{drop_of_length-le}
use Rattle.wire_runs.specs.State.{State}
use Rattle.wire_scripts.specs.Scripts.{Scripts}
use Rattle.wire_explain.specs.Stops.{standing}
use Rattle.wire_standstill.specs.Report.{ranks_at, ranks_json}

pub added_more : (scripts : Scripts) (s : State) (ranks : List ℕ) (i : ℕ) (d : ℕ) (out new all : List (List ℕ)) → i < length ranks →
    out ++ ranks_json scripts s (drop i ranks) ≡ all → new ≡ out ++ ranks_at scripts (standing scripts s (get_or ranks i d)) → new ++ ranks_json scripts s (drop (i + 1) ranks) ≡ all
added_more scripts s ranks i d out new all low so_far is =
    let rest = ranks_json scripts s (drop (i + 1) ranks) in
    ap (λ xs. xs ++ rest) is ∙ append_assoc out (ranks_at scripts (standing scripts s (get_or ranks i d))) rest
    ∙ ap (λ xs. out ++ xs) (sym (at_drop_more (ranks_json scripts s) ranks i d low)) ∙ so_far

pub added_all : (scripts : Scripts) (s : State) (ranks : List ℕ) (i : ℕ) (out all : List (List ℕ)) → length ranks ≤ i → out ++ ranks_json scripts s (drop i ranks) ≡ all → out ≡ all
added_all scripts s ranks i out all past so_far = sym (append-nil out) ∙ ap (λ xs. out ++ ranks_json scripts s xs) (sym (drop_of_length-le ranks past)) ∙ so_far

-- a list from behind its first item
pub behind_first : (xs : List ℕ) (n : ℕ) → n ≡ min (length xs) 1 → drop n xs ≡ drop 1 xs
behind_first [] n is = let none : n ≡ 0 = omega (arith, is) in ap (λ k. drop {A = ℕ} k []) none
behind_first (x ∷ xs) n is = let one : n ≡ 1 = omega (arith, is) in ap (λ k. drop k (x ∷ xs)) one
