-- The cast that is asked for, and what its text reads as.
use Rattle.std.proofs.Common.{◌≡◌, ◌∙◌, ap, sym, subst, ℕ, ◌+◌, ◌<◌, ◌^◌, List, [], ◌⊎◌, inl, inr, map, take, sum_by, Some, Ok, Err, ◌≤◌, arith}
use Rattle.wire_types.specs.declared.Fault.{Fault}
use Rattle.wire_types.specs.declared.Fault.TheVariants.{Memory}
use Rattle.wire_scripts.specs.Scripts.{Scripts}
use Rattle.wire_types.specs.declared.Version.TheVariants.{Two}
use Rattle.wire_reader.specs.declared.Size.{Size}
use Rattle.wire_reader.specs.declared.Size.TheVariants.{OfVersion, Large}
use Rattle.wire_reader.specs.declared.Limits.{Limits}
use Rattle.wire_reader.specs.Limits.{file_bytes, limits_of}
use Rattle.wire_reader.specs.Reads.{Reads}
use Rattle.wire_pattern.specs.Pattern.{Pattern}
use Rattle.wire_pattern.specs.Lawful.{IsSoundPattern}
use Rattle.wire_pattern.specs.Instances as text
use Rattle.wire_pattern.specs.Instances.{instance_lines, instance_text}
use Rattle.wire_instances.specs.declared.cast.Cast.{Cast}
use Rattle.wire_instances.specs.Faults.{fault_by}
use Rattle.wire_instances.specs.Nodes.{AreNodes}
use Rattle.wire_instances.specs.Views.{cast_by, choice_by}
use Rattle.wire_instances.specs.Tables.{AreSizes}
use Rattle.wire_instance_laws.specs.Reading.{InstancesRead}
use Rattle.wire_reader.proofs.Limited.{whole_read}
use Rattle.wire_command.proofs.Came.{read_as, refuses}
use Rattle.wire_pattern_commands.specs.Expand.{IsCastAsked, IsExpanded, IsExpandFault, word_of}
use Rattle.wire_pattern_commands.specs.Ranks.{AreSizesAsked}
use Rattle.wire_pattern_commands.specs.Spread.{AreNodesAsked}
use Rattle.wire_pattern_commands.specs.declared.expand.Expansion.{Expansion}

pub cast_made : (p : Pattern) (asked : Expansion) (cast : Cast) (processes : ℕ) → AreSizes p.roles cast.sizes.items → AreSizesAsked p (word_of asked) cast.sizes.items
    → cast.chosen.items ≡ [] → processes ≡ sum_by (λ (size : ℕ). size) cast.sizes.items → processes < 2 ^ 31
    → processes ≤ (limits_of asked.size Two).processes → AreNodes processes cast.nodes → AreNodesAsked asked.size asked.spread processes cast.nodes
    → IsCastAsked p asked (cast_by cast)
cast_made p asked cast processes fit sizes chosen total few within nodes spread = record {
  is_cast = record {
    sized = fit.sized;
    only = fit.only;
    placed = nodes.placed ∙ total;
    below = nodes.below;
    few = subst (λ n. n < 2 ^ 31) total few;
    few_nodes = nodes.few;
  };
  within = subst (λ n. n ≤ (limits_of asked.size Two).processes) total within;
  sized = sizes;
  chosen = ap (map choice_by) chosen;
  spread = record {
    node = λ v h. spread.node v (subst (λ n. v < n) (sym total) h);
    used = λ n h. let its = spread.used n h in (its.0, subst (λ m. its.0 < m) total its.1, its.2);
  };
}

-- the front of a text reads as scripts: it is all of the text
pub expanded : (p : Pattern) (asked : Expansion) (cast : text.Cast) (written shown : List ℕ) (s : Scripts) → IsSoundPattern p → InstancesRead → IsCastAsked p asked cast
    → written ≡ take (file_bytes asked.size + 1) (instance_text p cast) → shown ≡ written → Reads asked.size shown (Ok s) → IsExpanded p asked written
expanded p asked cast written shown s sound law its is same reads =
    let read = read_as {size = asked.size} (Some (instance_text p cast)) written shown s same is reads in
    let whole = subst (λ t. Reads asked.size t (Ok s)) (sym read.came) read.reads in
    let all = is ∙ whole_read asked.size (instance_text p cast) s whole in
    record {
      cast = cast;
      is_asked = its;
      is = all;
      scripts = s;
      reads = subst (λ t. Reads asked.size t (Ok s)) (sym all) whole;
      instance = law p cast asked.size s sound its.is_cast whole;
    }

-- or it has a fault, and this is that of the text
pub not_expanded : (p : Pattern) (asked : Expansion) (cast : text.Cast) (written shown : List ℕ) (told fault : Fault) → IsCastAsked p asked cast
    → written ≡ take (file_bytes asked.size + 1) (instance_text p cast) → shown ≡ written → (told ≡ Memory) ⊎ Reads asked.size shown (Err told)
    → fault ≡ fault_by (instance_lines p cast) told → IsExpandFault p asked fault
not_expanded p asked cast written shown told fault its is same (inl memory) at = inl (at ∙ ap (fault_by (instance_lines p cast)) memory)
not_expanded p asked cast written shown told fault its is same (inr reads) at =
    let refused = refuses {size = asked.size} (Some (instance_text p cast)) written shown told same is reads in
    inr (inr (inr (record {
      cast = cast;
      is_asked = its;
      told = told;
      reads = subst (λ t. Reads asked.size t (Err told)) (sym refused.came) refused.reads;
      is = at;
    })))

-- a plan has fewer processes than there are numbers of them
most_processes : (size : Size) → (limits_of size Two).processes < 2 ^ 31
most_processes OfVersion = omega arith
most_processes Large = omega arith

pub few_enough : (size : Size) (limits : Limits) (processes : ℕ) → limits ≡ limits_of size Two → processes ≤ limits.processes → processes < 2 ^ 31
few_enough size limits processes are within =
    let most : processes ≤ (limits_of size Two).processes = subst (λ l. processes ≤ l.processes) are within in
    omega (arith, most, most_processes size)
