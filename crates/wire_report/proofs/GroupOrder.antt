-- The order of groups is one by which they can be sorted.
use Rattle.std.specs.Cmp.{IsStrictWeakOrder, IsTotalOrder, nat_cmp_total, on_total, then_total, back_total}
use Rattle.std.specs.Ordering.{is_lt}
use Rattle.std.proofs.lemmas.List.Sorted.{ranks_by}
use Rattle.wire_report.specs.declared.tally.Group.{Group}
use Rattle.wire_report.specs.Groups.{group_cmp}

pub total : IsTotalOrder group_cmp
total = then_total (on_total (λ (g : Group). g.count) (back_total nat_cmp_total)) (on_total (λ (g : Group). g.first) nat_cmp_total)

pub groups_rank : IsStrictWeakOrder (λ x y. is_lt (group_cmp x y))
groups_rank = ranks_by total (λ g. g)
