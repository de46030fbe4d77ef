use Rattle.std.proofs.Common.{◌≤◌, sym, subst, rules, true, false, ◌≡◌, nat_lt, length}
use Rattle.std.specs.List.Sorted.{IsPartitionPoint, IsPartitionedBy}
use Rattle.std.proofs.lemmas.List.Sorted.{IsPartitionPoint-from_clause}
use Rattle.wire_plan.proofs.Planning.{numbers_parted, parted_at}
use Rattle.wire_plan.proofs.events.events_before.Goals as goal

pub returns : goal.returns
returns c = λ calls is.
    let xs = c.args.numbers.now in
    let call = c.args.call in
    let n = c.partition_point.result in
    let parted = subst (IsPartitionedBy (λ m. nat_lt m call)) (sym is) (numbers_parted calls call) in
    let point = IsPartitionPoint-from_clause (λ m. nat_lt m call) xs _ c.partition_point.ensures.partitioned parted (λ a r q h. search rules) in
    parted_at calls call n (subst (λ ys. n ≤ length ys) is c.partition_point.ensures.bound)
    (subst (λ ys. IsPartitionPoint (λ m. nat_lt m call ≡ true) (λ m. nat_lt m call ≡ false) ys n) is point)
