use Rattle.std.proofs.Common.{◌∙◌, subst, rules}
use Rattle.std.specs.Ordering.{is_lt}
use Rattle.std.specs.Prelude.{IsPermutation}
use Rattle.std.proofs.lemmas.Fn.{always_returns_same}
use Rattle.std.proofs.lemmas.List.Sorted.{sum_by-IsPermutation}
use Rattle.wire_report.specs.declared.tally.Group.{Group}
use Rattle.wire_report.specs.Groups.{group_cmp}
use Rattle.wire_report.proofs.GroupOrder.{groups_rank}
use Rattle.wire_report.proofs.Parted.{parted}
use Rattle.wire_report.proofs.tally.groups_of.Goals as goal

pub returns : goal.returns
returns g c = parted g.K.PartialEq.eq g.met.K.Eq.laws c.args.labels.now c.sort_unstable_by.new.self.items
    (subst (λ gs. IsPermutation gs c.sort_unstable_by.new.self.items) c.in_ok-tally.ensures.groups c.sort_unstable_by.ensures.permutation)
    (c.sort_unstable_by.ensures.sorted (λ x y. is_lt (group_cmp x y)) groups_rank (always_returns_same _ _ _ (λ a r f h. search rules)))
    (sum_by-IsPermutation (λ (x : Group). x.count) c.in_ok-tally.tally.groups.items c.sort_unstable_by.new.self.items c.sort_unstable_by.ensures.permutation ∙ c.in_ok-tally.ensures.whole)
