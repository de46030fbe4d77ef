use Rattle.std.proofs.Common.{◌↔◌, subst, rules}
use Rattle.std.specs.Ordering.{is_lt}
use Rattle.std.proofs.lemmas.Fn.{dedup_same, always_returns_same}
use Rattle.wire_runs.specs.FindingsAnywhere.{PlacementFinding, IsPlacedSorted}
use Rattle.wire_findings.specs.Findings.{lower_name}
use Rattle.wire_anywhere.specs.Anywhere.{all_placed}
use Rattle.wire_anywhere.specs.Adding.{TellsPlacementFinding, AreSomewhere}
use Rattle.wire_anywhere.specs.Order.{placed_cmp}
use Rattle.wire_anywhere.proofs.Order.{same_placed, placed_rank, list_tells, list_sorted}
use Rattle.wire_anywhere.proofs.placed.PlacedList.in_order.Goals as goal

pub returns-clause-those : goal.returns-clause-those
returns-clause-those c = λ plan of.
    let names = c.args.names.now in
    let met = c.self.inside.entries.items in
    let list = c.dedup_by.new.self.items in
    let once = dedup_same _ (same_placed names) _ (λ x y b f' x' y' k. search rules) _ _ c.dedup_by.ensures.filtered in
    subst (λ l. AreSomewhere plan l → (f : PlacementFinding) → TellsPlacementFinding plan list f ↔ TellsPlacementFinding plan l f) c.self.view_is
    (list_tells plan names of met c.sort_unstable_by.new.self.items list c.sort_unstable_by.ensures.permutation once)

pub returns-clause-sorted : goal.returns-clause-sorted
returns-clause-sorted c = λ plan of.
    let names = c.args.names.now in
    let met = c.self.inside.entries.items in
    let list = c.dedup_by.new.self.items in
    let once = dedup_same _ (same_placed names) _ (λ x y b f' x' y' k. search rules) _ _ c.dedup_by.ensures.filtered in
    let up = c.sort_unstable_by.ensures.sorted (λ x y. is_lt (placed_cmp names x y)) (placed_rank names) (always_returns_same _ _ _ (λ a r g h. search rules)) in
    subst (λ l. AreSomewhere plan l → IsPlacedSorted (lower_name names) (all_placed plan list)) c.self.view_is
    (λ found. list_sorted plan names of met c.sort_unstable_by.new.self.items list c.sort_unstable_by.ensures.permutation once found up)
