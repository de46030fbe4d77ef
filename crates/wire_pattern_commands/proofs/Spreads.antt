-- Nodes that are dealt are those that are asked for.
use Rattle.std.proofs.Common.{◌≡◌, ◌∙◌, sym, ℕ, ◌<◌, ◌%◌, arith, Result, Ok, Err, IfOk}
use native.Mathlib.Nat.{mod-eq_of_lt}
use Rattle.wire_reader.specs.declared.Size.{Size}
use Rattle.wire_instances.specs.declared.cast.Nodes.{Nodes}
use Rattle.wire_instances.specs.Nodes.{AreDealt}
use Rattle.wire_pattern_commands.specs.Spread.{AreNodesAsked, node_asked}
use Rattle.wire_pattern_commands.specs.declared.spread.Spread.{Spread}

-- each process has its node, and each node has a process
pub dealt_asked : {E : Type 0} (size : Size) (spread : Spread) (processes n : ℕ) (r : Result Nodes E) → 0 < n → ((v : ℕ) → node_asked size spread v ≡ v % n)
    → IfOk r (λ nodes. AreDealt processes n nodes) → IfOk r (λ nodes. AreNodesAsked size spread processes nodes)
dealt_asked size spread processes n (Err e) some asked dealt = tt
dealt_asked size spread processes n (Ok nodes) some asked dealt = record {
  node = λ v h. dealt.node v h ∙ sym (asked v);
  used = λ m h.
      let below : m < processes = omega (arith, h, dealt.count) in
      let few : m < n = omega (arith, h, dealt.count) in
      (m, below, dealt.node m below ∙ mod-eq_of_lt few);
}
