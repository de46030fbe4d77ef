-- No node is without a process, where each is alone and where two share one.
use Rattle.std.proofs.Common.{◌≡◌, ◌∙◌, ap, ℕ, suc, pred, ◌<◌, ◌≤◌, Some, inl, inr, arith}
use Rattle.std.specs.Prelude.{slice_get}
use Rattle.std.proofs.lemmas.Bool.{cond-false, cond-true, cases_lt, ne_eqb}
use Rattle.std.proofs.Common.{lt-ltb, le-ltb}
use Rattle.std.proofs.lemmas.Option.{slice_get-get_or}
use Rattle.wire_instances.specs.declared.cast.Nodes.{Nodes}
use Rattle.wire_instances.specs.Nodes.{AreNodes, HaveOwnNodes, ArePaired, paired_node}
use Rattle.wire_cutoff.specs.Views.{AreUsed}

pub alone_used : (processes : ℕ) (nodes : Nodes) → AreNodes processes nodes → HaveOwnNodes processes nodes → AreUsed nodes
alone_used processes nodes are alone = λ n below.
    let lt : n < processes = omega (arith, below, alone.count) in
    (n, slice_get-get_or nodes.of.items n 0 (omega (arith, lt, are.placed)) ∙ ap Some (alone.node n lt))

before_b : (a b v : ℕ) → v < b → paired_node a b v ≡ v
before_b a b v lt = cond-false _ a _ (ne_eqb v b (λ e. omega (arith, lt, e))) ∙ cond-true _ v (pred v) (lt-ltb v b lt)

behind_b : (a b n : ℕ) → b ≤ n → paired_node a b (suc n) ≡ n
behind_b a b n le = cond-false _ a _ (ne_eqb (suc n) b (λ e. omega (arith, le, e))) ∙ cond-false _ (suc n) n (le-ltb (suc n) b (omega (arith, le)))

pub paired_used : (processes a b : ℕ) (nodes : Nodes) → AreNodes processes nodes → ArePaired processes a b nodes → b < processes → AreUsed nodes
paired_used processes a b nodes are paired there = λ n below. elim (cases_lt n b) [
  | inl lt ↦ at n n (omega (arith, lt, there)) (before_b a b n lt)
  | inr le ↦ at (suc n) n (omega (arith, below, paired.count)) (behind_b a b n le)
]
  where
    at : (v n : ℕ) → v < processes → paired_node a b v ≡ n → (w : ℕ) × (slice_get nodes.of.items w ≡ Some n)
    at v n lt is = (v, slice_get-get_or nodes.of.items v 0 (omega (arith, lt, are.placed)) ∙ ap Some (paired.node v lt ∙ is))
