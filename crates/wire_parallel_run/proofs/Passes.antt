-- The last of the first passes.
use Rattle.std.proofs.Common.{◌≡◌, ℕ, List, [], ◌∷◌, ◌++◌, length, subst, sym, Option, Some, None, option_to_list, IfSome, append-nil, ⊎_elim, ◌∙◌}
use Rattle.wire_rounds.specs.declared.round.StealRound.{StealRound}
use Rattle.wire_rounds.specs.declared.round.Pass.{Pass}
use Rattle.wire_rounds.specs.Rounds.{IsPassOf, worker_of}
use Rattle.wire_rounds.proofs.Rows.{get_snoc, get_longer, get_last}
use Rattle.wire_parallel_run.specs.Passes.{AreFirstPasses}

first_passes : (r : StealRound) (ps : List Pass) (p : Pass) → AreFirstPasses r (ps ++ p ∷ []) → AreFirstPasses r ps
first_passes r ps p all k q at = all k q (get_longer ps (p ∷ []) k q at)

last_of : (r : StealRound) (ps : List Pass) (p : Pass) → AreFirstPasses r (ps ++ p ∷ []) → (worker_of p ≡ length ps) × IsPassOf r p
last_of r ps p all = all (length ps) p (get_last ps p)

pub passes_again : (r : StealRound) (ps : List Pass) (p : Pass) → AreFirstPasses r ps → worker_of p ≡ length ps → IsPassOf r p → AreFirstPasses r (ps ++ p ∷ [])
passes_again r ps p all number is k q at =
    ⊎_elim (λ here. all k q here) (λ (e : (k ≡ length ps) × (p ≡ q)). subst (λ z. (worker_of z ≡ k) × IsPassOf r z) e.1 (number ∙ sym e.0, is)) (get_snoc ps p q k at)

pub popped : (r : StealRound) (ps qs : List Pass) (n : ℕ) (o : Option Pass) → ps ≡ qs ++ option_to_list o → n ≡ length qs → AreFirstPasses r ps → IfSome o (λ p. IsPassOf r p × (worker_of p ≡ n))
popped r ps qs n None e len all = tt
popped r ps qs n (Some p) e len all = let last = last_of r qs p (subst (AreFirstPasses r) e all) in (last.1, last.0 ∙ sym len)

pub popped_rest : (r : StealRound) (ps qs : List Pass) (o : Option Pass) → ps ≡ qs ++ option_to_list o → AreFirstPasses r ps → AreFirstPasses r qs
popped_rest r ps qs None e all = subst (AreFirstPasses r) (e ∙ append-nil qs) all
popped_rest r ps qs (Some p) e all = first_passes r qs p (subst (AreFirstPasses r) e all)
