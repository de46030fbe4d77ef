-- On which nodes a counterexample is shown: the first, of those that are tried in turn, on which something is found.
use Rattle.std.specs.Prelude.{◌≡◌, ◌<◌, ◌⊎◌, ℕ, List, slice_index_or}
use Rattle.wire_pattern.specs.Pattern.{Pattern}
use Rattle.wire_pattern.specs.Instances.{Cast, process_count}
use Rattle.wire_instances.specs.Nodes.{paired_node}
use Rattle.wire_cutoff.specs.Sharing.{IsSettledOn, IsPairSettled}

-- each process is alone, on the node that has its number
abbrev pub AreAllAlone : Cast → List ℕ → Type 0
AreAllAlone cast nodes = (v : ℕ) → v < process_count cast → slice_index_or nodes v 0 ≡ v

-- a pair comes before another by its lower process, then by its higher one
abbrev pub IsPairBefore : ℕ → ℕ → ℕ → ℕ → Type 0
IsPairBefore a b c d = (a < c) ⊎ ((a ≡ c) × (b < d))

-- two processes share a node, each other is alone; nothing is found where all are alone, nor with a pair before these
pub record IsFirstPair (p : Pattern) (cast : Cast) (nodes : List ℕ) : Type 0 where
  pub a : ℕ
  pub b : ℕ
  pub in_order : a < b
  pub there : b < process_count cast
  pub paired : (v : ℕ) → v < process_count cast → slice_index_or nodes v 0 ≡ paired_node a b v
  pub alone : IsSettledOn p cast (λ v. v)
  pub before : (c d : ℕ) → c < d → d < process_count cast → IsPairBefore c d a b → IsPairSettled p cast c d

-- each process is alone; or else two share a node, the first such pair with which something is found
abbrev pub AreFirstNodes : Pattern → Cast → List ℕ → Type 0
AreFirstNodes p cast nodes = AreAllAlone cast nodes ⊎ IsFirstPair p cast nodes
