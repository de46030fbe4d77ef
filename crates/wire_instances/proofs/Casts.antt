-- What makes a cast one of a pattern.
use Rattle.std.proofs.Common.{◌≡◌, ◌∙◌, ap, sym, ℕ, ◌^◌, ◌<◌, ◌≤◌, List, length, arith}
use Rattle.std.specs.Prelude.{slice_get, sum_by}
use Rattle.wire_pattern.specs.Pattern.{Pattern, Role}
use Rattle.wire_pattern.specs.Planned.{single_in}
use Rattle.wire_pattern.specs.Instances.{IsCast}
use Rattle.wire_instances.specs.declared.cast.Cast.{Cast}
use Rattle.wire_instances.specs.Views.{cast_by}
use Rattle.wire_instances.specs.Nodes.{AreNodes}
use Rattle.wire_instances.specs.Tables.{AreSizes}

pub too_many : (p : Pattern) (cast : Cast) (sizes : List ℕ) → sizes ≡ cast.sizes.items → 2 ^ 31 ≤ sum_by (λ (size : ℕ). size) sizes → IsCast p (cast_by cast) → ⊥
too_many p cast sizes is many h = omega (arith, many, ap (sum_by (λ (size : ℕ). size)) is, h.few)

pub cast_made : (p : Pattern) (cast : Cast) (roles : List Role) (sizes : List ℕ) (total : ℕ) → roles ≡ p.roles → sizes ≡ cast.sizes.items
    → (total ≡ sum_by (λ (size : ℕ). size) sizes) × (total < 2 ^ 31) → AreSizes roles sizes → AreNodes total cast.nodes → IsCast p (cast_by cast)
cast_made p cast roles sizes total r s t sized nodes =
    let many : total ≡ sum_by (λ (size : ℕ). size) cast.sizes.items = t.0 ∙ ap (sum_by (λ (size : ℕ). size)) s in
    record {
      sized = sym (ap length s) ∙ sized.sized ∙ ap length r;
      only = λ role single. sym (ap (λ xs. slice_get xs role) s) ∙ sized.only role (ap (λ rs. single_in (slice_get rs role)) r ∙ single);
      placed = nodes.placed ∙ many;
      below = nodes.below;
      few = omega (arith, many, t.1);
      few_nodes = nodes.few;
    }

pub sizes_of : (p : Pattern) (cast : Cast) (roles : List Role) (sizes : List ℕ) → roles ≡ p.roles → sizes ≡ cast.sizes.items → IsCast p (cast_by cast) → AreSizes roles sizes
sizes_of p cast roles sizes r s h = record {
  sized = ap length s ∙ h.sized ∙ sym (ap length r);
  only = λ role single. ap (λ xs. slice_get xs role) s ∙ h.only role (sym (ap (λ rs. single_in (slice_get rs role)) r) ∙ single);
}

pub nodes_of : (p : Pattern) (cast : Cast) (sizes : List ℕ) (total : ℕ) → sizes ≡ cast.sizes.items → (total ≡ sum_by (λ (size : ℕ). size) sizes) × (total < 2 ^ 31) → IsCast p (cast_by cast)
    → AreNodes total cast.nodes
nodes_of p cast sizes total s t h = record {
  placed = h.placed ∙ sym (t.0 ∙ ap (sum_by (λ (size : ℕ). size)) s);
  below = h.below;
  few = h.few_nodes;
}
