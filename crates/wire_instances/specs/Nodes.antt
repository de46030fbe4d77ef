-- Nodes for so many processes.
use Rattle.std.specs.Prelude.{◌≡◌, ◌<◌, ◌^◌, ◌==◌, ◌/◌, ◌%◌, ◌↔◌, ℕ, suc, pred, min, nat_lt, true, length}
use Rattle.std.specs.Prelude.{slice_index_or, if◌then◌else◌}
use Rattle.std.specs.List.{list_all}
use Rattle.wire_runs.specs.Embeddings.{pair}
use Rattle.wire_instances.specs.declared.cast.Nodes.{Nodes}

-- the number of a process's node
abbrev pub node_of : Nodes → ℕ → ℕ
node_of nodes v = slice_index_or nodes.of.items v 0

-- each of so many processes has one of the nodes
pub record AreNodes (processes : ℕ) (nodes : Nodes) : Type 0 where
  pub placed : length nodes.of.items ≡ processes
  pub below : list_all (λ n. nat_lt n nodes.count) nodes.of.items ≡ true
  pub few : nodes.count < 2 ^ 31

-- each process is alone, on the node that has its number
pub record HaveOwnNodes (processes : ℕ) (nodes : Nodes) : Type 0 where
  pub count : nodes.count ≡ processes
  pub node : (v : ℕ) → v < processes → node_of nodes v ≡ v

-- the processes a and b, a the lower, share a node; all others are alone; nodes are numbered in the order of their
-- first processes
abbrev pub paired_node : ℕ → ℕ → ℕ → ℕ
paired_node a b v = if v == b then a else (if nat_lt v b then v else pred v)

pub record ArePaired (processes a b : ℕ) (nodes : Nodes) : Type 0 where
  pub count : suc nodes.count ≡ processes
  pub node : (v : ℕ) → v < processes → node_of nodes v ≡ paired_node a b v
  pub together : (v w : ℕ) → v < processes → w < processes →
      (node_of nodes v ≡ node_of nodes w) ↔ (pair a b v ≡ pair a b w)

-- so many processes on each node, in their order; no node is without a process
pub record ArePerNode (processes each : ℕ) (nodes : Nodes) : Type 0 where
  pub node : (v : ℕ) → v < processes → node_of nodes v ≡ v / each
  pub used : (n : ℕ) → n < nodes.count → (v : ℕ) × (v < processes) × (node_of nodes v ≡ n)

-- process v on the node v mod n, of n nodes, or of as many as there are processes
pub record AreDealt (processes n : ℕ) (nodes : Nodes) : Type 0 where
  pub count : nodes.count ≡ min processes n
  pub node : (v : ℕ) → v < processes → node_of nodes v ≡ v % n
