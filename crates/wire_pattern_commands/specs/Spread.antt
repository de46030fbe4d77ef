-- Ranks that are spread over nodes.
use Rattle.std.specs.Prelude.{◌≡◌, ◌<◌, ◌/◌, ◌%◌, ℕ, slice_index_or}
use Rattle.std.specs.Int.NonZero.{non_zero_u32_get}
use Rattle.wire_types.specs.declared.Version.TheVariants.{Two}
use Rattle.wire_reader.specs.declared.Size.{Size}
use Rattle.wire_reader.specs.Limits.{limits_of}
use Rattle.wire_pattern.specs.Instances.{Cast, process_count}
use Rattle.wire_instances.specs.declared.cast.Nodes.{Nodes}
use Rattle.wire_instances.specs.Nodes.{node_of}
use Rattle.wire_pattern_commands.specs.declared.spread.Spread.{Spread}
use Rattle.wire_pattern_commands.specs.declared.spread.Spread.TheVariants.{Apart, PerNode, ByNode}

-- the number of the node of the process v. Apart each has a node of its own, as long as there may be so many
abbrev pub node_asked : Size → Spread → ℕ → ℕ
node_asked size Apart v = v % (limits_of size Two).nodes
node_asked size (PerNode each) v = v / non_zero_u32_get each
node_asked size (ByNode nodes) v = v % non_zero_u32_get nodes

-- each process of a cast is on the node that is asked for, and no node is without a process
pub record AreSpread (size : Size) (spread : Spread) (cast : Cast) : Type 0 where
  pub node : (v : ℕ) → v < process_count cast → slice_index_or cast.nodes v 0 ≡ node_asked size spread v
  pub used : (n : ℕ) → n < cast.node_count → (v : ℕ) × (v < process_count cast) × (slice_index_or cast.nodes v 0 ≡ n)

-- the same of the nodes alone, for so many processes: for private contracts alone
pub record AreNodesAsked (size : Size) (spread : Spread) (processes : ℕ) (nodes : Nodes) : Type 0 where
  pub node : (v : ℕ) → v < processes → node_of nodes v ≡ node_asked size spread v
  pub used : (n : ℕ) → n < nodes.count → (v : ℕ) × (v < processes) × (node_of nodes v ≡ n)
