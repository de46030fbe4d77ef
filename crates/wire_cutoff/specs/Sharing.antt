-- An instance on some nodes.
use Rattle.std.specs.Prelude.{◌≡◌, ◌<◌, ◌==◌, ℕ}
use Rattle.wire_runs.specs.Races.{IsSettled}
use Rattle.wire_runs.specs.Embeddings.{pair}
use Rattle.wire_runs.specs.Patterns.{Coding, instance_of}
use Rattle.wire_pattern.specs.Pattern.{Pattern}
use Rattle.wire_pattern.specs.Planned.{pattern_of}
use Rattle.wire_pattern.specs.Instances.{Cast, process_count}
use Rattle.wire_instances.specs.declared.cast.Nodes.{Nodes}
use Rattle.wire_instances.specs.Nodes.{node_of}
use Rattle.wire_cutoff_laws.specs.Choices.{cast_on}

-- nothing is found in the instance on these nodes
abbrev pub IsSettledOn : Pattern → Cast → (ℕ → ℕ) → Type 0
IsSettledOn p cast nodes = (coding : Coding) → IsSettled (instance_of (pattern_of p) coding (cast_on cast.sizes cast.chosen nodes))

-- with two processes on one node, each other alone, nothing is found
abbrev pub IsPairSettled : Pattern → Cast → ℕ → ℕ → Type 0
IsPairSettled p cast a b = IsSettledOn p cast (pair a b) × IsSettledOn p cast (pair b a)

-- the rest is for private contracts alone

-- of so many processes the same share a node
abbrev pub ShareAs : ℕ → (ℕ → ℕ) → (ℕ → ℕ) → Type 0
ShareAs processes f g = (v w : ℕ) → v < processes → w < processes → (f v == f w) ≡ (g v == g w)

-- nor on any on which the same processes share one
abbrev pub IsSettledLike : Pattern → Cast → Nodes → Type 0
IsSettledLike p cast nodes = (f : ℕ → ℕ) → ShareAs (process_count cast) f (node_of nodes) → IsSettledOn p cast f
