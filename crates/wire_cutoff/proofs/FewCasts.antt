-- Casts with few processes of each role.
use Rattle.std.proofs.Common.{◌≡◌, ◌∙◌, ap, sym, subst, refl, ℕ, ◌<◌, ◌^◌, List, arith}
use Rattle.wire_pattern.specs.Pattern.{Pattern}
use Rattle.wire_pattern.specs.Lawful.{IsSoundPattern}
use Rattle.wire_pattern.specs.Instances.{process_count}
use Rattle.wire_instances.specs.declared.cast.Cast.{Cast}
use Rattle.wire_instances.specs.declared.cast.Nodes.{Nodes}
use Rattle.wire_instances.specs.Nodes.{AreNodes}
use Rattle.wire_instances.specs.Views.{cast_by}
use Rattle.wire_cutoff_laws.specs.Sizes.{AreFewSizes, total_of}
use Rattle.wire_cutoff.specs.Judged.{IsFewCast}
use Rattle.wire_cutoff.specs.Views.{AreUsed}
use Rattle.wire_cutoff.proofs.Listed.{sizes_count, single_size}

-- with few processes of each role, each process on one of the nodes
pub few_cast : (p : Pattern) (cast : Cast) (sizes : List ℕ) (total : ℕ) → IsSoundPattern p → AreFewSizes p.roles sizes → cast.sizes.items ≡ sizes
    → total ≡ total_of sizes → total < 2 ^ 31 → AreNodes total cast.nodes → AreUsed cast.nodes → IsFewCast p (cast_by cast)
few_cast p cast sizes total sound are is count few nodes used = record {
  cast_is = record {
    sized = sizes_count p.roles cast.sizes.items own;
    only = single_size p.roles cast.sizes.items sound.least own;
    placed = nodes.placed ∙ many;
    below = nodes.below;
    few = omega (arith, many, few);
    few_nodes = nodes.few;
  };
  sizes = own;
  used = used;
}
  where
    own : AreFewSizes p.roles cast.sizes.items
    own = subst (AreFewSizes p.roles) (sym is) are

    many : total ≡ process_count (cast_by cast)
    many = count ∙ ap total_of (sym is)

-- on other nodes
pub cast_moved : (p : Pattern) (cast moved : Cast) (nodes : Nodes) → IsSoundPattern p → IsFewCast p (cast_by cast) → moved.sizes.items ≡ cast.sizes.items
    → moved.nodes ≡ nodes → AreNodes (process_count (cast_by cast)) nodes → AreUsed nodes → IsFewCast p (cast_by moved)
cast_moved p cast moved nodes sound few is at there used =
    few_cast p moved cast.sizes.items (process_count (cast_by cast)) sound few.sizes is refl few.cast_is.few
    (subst (AreNodes (process_count (cast_by cast))) (sym at) there) (subst AreUsed (sym at) used)
