-- The passes of a round, one of which took a piece.
use Rattle.std.proofs.Common.{◌≡◌, ◌≢◌, ℕ, List, set, sym, ◌∙◌, subst, ⊎_elim, length-set}
use mathlib.Core.Option.{some}
use lib.ListN.{get_elem?}
use Rattle.crossbeam_deque.proofs.Lists.{at_set}
use Rattle.wire_rounds.specs.declared.round.StealRound.{StealRound}
use Rattle.wire_rounds.specs.declared.round.Pass.{Pass}
use Rattle.wire_rounds.specs.Rounds.{IsPassOf, ArePassesOf, worker_of}

-- a pass of the round in its place
pub passes_set : (r : StealRound) (ps : List Pass) (k : ℕ) (p q : Pass) → ArePassesOf r ps → get_elem? ps k ≡ some p → IsPassOf r q → worker_of q ≡ worker_of p → ArePassesOf r (set ps k q)
passes_set r ps k p q are at is same = (
  length-set ps k q ∙ are.0,
  λ j x here.
      ⊎_elim (λ (e : (j ≡ k) × (q ≡ x)). subst (λ (z : Pass). (worker_of z ≡ j) × IsPassOf r z) e.1 (same ∙ ((are.1 k p at).0 ∙ sym e.0), is))
      (λ (e : (j ≢ k) × (get_elem? ps j ≡ some x)). are.1 j x e.1) (at_set ps k j q x here),
)
