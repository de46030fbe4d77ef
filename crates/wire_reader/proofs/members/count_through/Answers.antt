use Rattle.std.proofs.Common.{leb, rules, refl, arith}
use borrow.Author.Tests.{leb-true, leb-false}
use Rattle.std.proofs.lemmas.List.Sorted.{IsPartitionPoint-from_clause, IsPartitionedBy-leb}
use Rattle.wire_reader.specs.Drafted.{declared_of}
use Rattle.wire_reader.specs.declared.draft.Started.{Started as Building}
use Rattle.wire_reader.proofs.Standing.{declared_rise}
use Rattle.wire_reader.proofs.NamedRanges.{stand_through}
use Rattle.wire_reader.proofs.members.count_through.Goals as goal

pub returns-clause-those : goal.returns-clause-those
returns-clause-those c =
    let bs = c.args.draft.now.processes.items in
    let rise = declared_rise (declared_of c.args.draft.now) bs c.requires.declared refl in
    let parted = IsPartitionedBy-leb (λ (p : Building). p.job) bs c.args.job rise in
    let point = IsPartitionPoint-from_clause (λ p. leb p.job c.args.job) bs _ (rw c.deref.ensures.value at c.partition_point.ensures.partitioned) parted (λ a r q k. search rules) in
    λ k p at. stand_through bs c.args.job c.partition_point.result k p at
    (λ i b lt. leb-true _ _ (point.0 i b (omega arith) lt))
    (λ i b le lt. leb-false _ _ (point.1 i b le lt))
