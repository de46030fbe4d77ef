use Rattle.std.proofs.Common.{◌↔◌, sym, subst, rules}
use Rattle.std.specs.Ordering.{is_lt}
use Rattle.std.proofs.lemmas.Fn.{dedup_same, always_returns_same}
use Rattle.std.proofs.lemmas.List.Sorted.{IsPermutation-refl}
use Rattle.wire_runs.specs.Findings.{Finding, IsSorted}
use Rattle.wire_findings.specs.Findings.{all_shown, lower_name}
use Rattle.wire_findings.specs.Collected.{TellsFinding, AreFound}
use Rattle.wire_findings.specs.Packing.{all_told_by}
use Rattle.wire_findings.specs.Standings.{entry_cmp, AreInOrder}
use Rattle.wire_findings.proofs.Packing.{same_entry, entries_tell, entries_sorted, entries_rank, all_kept, in_order_sorted}
use Rattle.wire_findings.proofs.found.FindingsBuilder.into_list.Goals as goal

pub returns-then-are_in_order-clause-those : goal.returns-then-are_in_order-clause-those
returns-then-are_in_order-clause-those c = λ plan of.
    let names = c.args.names.now in
    let subjects = c.self.inside.subjects.items in
    let met = c.self.inside.entries.items in
    let up : AreInOrder names subjects met = search rules in
    let once = all_kept names subjects met up in
    subst (λ l. AreFound plan l → (f : Finding) → TellsFinding plan c.new.result f ↔ TellsFinding plan l f) c.self.view_is
    (subst (λ r. AreFound plan (all_told_by subjects met) → (f : Finding) → TellsFinding plan r f ↔ TellsFinding plan (all_told_by subjects met) f) (sym c.new.ensures)
    (entries_tell plan names of subjects met met met (IsPermutation-refl met) (sym once)))

pub returns-then-are_in_order-clause-sorted : goal.returns-then-are_in_order-clause-sorted
returns-then-are_in_order-clause-sorted c = λ plan of.
    let names = c.args.names.now in
    let subjects = c.self.inside.subjects.items in
    let met = c.self.inside.entries.items in
    let up : AreInOrder names subjects met = search rules in
    subst (λ l. AreFound plan l → IsSorted (lower_name names) (all_shown plan c.new.result)) c.self.view_is
    (subst (λ r. AreFound plan (all_told_by subjects met) → IsSorted (lower_name names) (all_shown plan r)) (sym c.new.ensures)
    (λ found. entries_sorted plan names of subjects met met met (IsPermutation-refl met) (sym (all_kept names subjects met up)) found (in_order_sorted names subjects met up)))

pub returns-clause-those : goal.returns-clause-those
returns-clause-those c = λ plan of.
    let names = c.args.names.now in
    let subjects = c.self.inside.subjects.items in
    let met = c.self.inside.entries.items in
    let list = c.dedup_by.new.self.items in
    let once = dedup_same _ (same_entry names subjects) _ (λ x y b f' x' y' k. search rules) _ _ c.dedup_by.ensures.filtered in
    subst (λ l. AreFound plan l → (f : Finding) → TellsFinding plan c.new-2.result f ↔ TellsFinding plan l f) c.self.view_is
    (subst (λ r. AreFound plan (all_told_by subjects met) → (f : Finding) → TellsFinding plan r f ↔ TellsFinding plan (all_told_by subjects met) f) (sym c.new-2.ensures)
    (entries_tell plan names of subjects met c.sort_unstable_by.new.self.items list c.sort_unstable_by.ensures.permutation once))

pub returns-clause-sorted : goal.returns-clause-sorted
returns-clause-sorted c = λ plan of.
    let names = c.args.names.now in
    let subjects = c.self.inside.subjects.items in
    let met = c.self.inside.entries.items in
    let list = c.dedup_by.new.self.items in
    let once = dedup_same _ (same_entry names subjects) _ (λ x y b f' x' y' k. search rules) _ _ c.dedup_by.ensures.filtered in
    let up = c.sort_unstable_by.ensures.sorted (λ x y. is_lt (entry_cmp names subjects x y)) (entries_rank names subjects) (always_returns_same _ _ _ (λ a r g h. search rules)) in
    subst (λ l. AreFound plan l → IsSorted (lower_name names) (all_shown plan c.new-2.result)) c.self.view_is
    (subst (λ r. AreFound plan (all_told_by subjects met) → IsSorted (lower_name names) (all_shown plan r)) (sym c.new-2.ensures)
    (λ found. entries_sorted plan names of subjects met c.sort_unstable_by.new.self.items list c.sort_unstable_by.ensures.permutation once found up))
