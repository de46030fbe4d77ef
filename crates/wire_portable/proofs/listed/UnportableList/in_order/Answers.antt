use Rattle.std.proofs.Common.{◌≡◌, false, rules, subst}
use Rattle.wire_portable.specs.Unportable.{IsUnblamed}
use Rattle.wire_portable.specs.Libraries.{is_empty}
use Rattle.wire_portable.proofs.Lined.{moved, all_kept, each_moved, each_left}
use Rattle.wire_portable.proofs.listed.UnportableList.in_order.Goals as goal

pub returns : goal.returns
returns c = λ library u.
    subst (IsUnblamed library) c.self.view_is (moved library c.self.inside.entries.items c.sort_unstable_by.new.self.items c.sort_unstable_by.ensures.permutation
    (all_kept library _ _ (λ x y b f' x' y' k. search rules) c.sort_unstable_by.new.self.items c.dedup_by.new.self.items c.dedup_by.ensures.filtered u))

pub invariant_of-result : goal.invariant_of-result
invariant_of-result c =
    each_left (λ line. is_empty line.libraries ≡ false) _ _ (λ x y b f' x' y' k. search rules) c.sort_unstable_by.new.self.items c.dedup_by.new.self.items c.dedup_by.ensures.filtered
    (each_moved (λ line. is_empty line.libraries ≡ false) c.self.inside.entries.items c.sort_unstable_by.new.self.items c.sort_unstable_by.ensures.permutation c.self.invariant)
