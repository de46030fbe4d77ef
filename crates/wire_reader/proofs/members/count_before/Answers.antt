use Rattle.std.proofs.Common.{ℕ, ◌<◌, ◌≤◌, length, get_or, ltb, ltb-true, ltb-false, arith, rules, refl}
use Rattle.std.proofs.lemmas.List.Sorted.{IsPartitionPoint-from_clause, IsPartitionedBy-ltb}
use Rattle.wire_reader.specs.Drafted.{declared_of}
use Rattle.wire_reader.specs.declared.draft.Started.{Started as Building}
use Rattle.wire_reader.proofs.Standing.{declared_rise, place_is}
use Rattle.wire_reader.proofs.NamedRanges.{stand_before}
use Rattle.wire_reader.proofs.members.count_before.Goals as goal

pub returns : goal.returns
returns c =
    let d = declared_of c.args.draft.now in
    let bs = c.args.draft.now.processes.items in
    let job = c.args.job in
    let count = c.partition_point.result in
    let rise = declared_rise d bs c.requires.declared refl in
    let parted = IsPartitionedBy-ltb (λ (p : Building). p.job) bs job rise in
    let point = IsPartitionPoint-from_clause (λ p. ltb p.job job) bs _ (rw c.deref.ensures.value at c.partition_point.ensures.partitioned) parted (λ a r q k. search rules) in
    let below : (i : ℕ) (b : Building) → i < count → (get_or bs i b).job < job = λ i b lt. ltb-true _ _ (point.0 i b (omega arith) lt) in
    let above : (i : ℕ) (b : Building) → count ≤ i → i < length bs → job ≤ (get_or bs i b).job = λ i b le lt. ltb-false _ _ (point.1 i b le lt) in
    record {
      within = search rules;
      place = λ k p at same. place_is d bs job count k p c.requires.declared refl at same below above;
      those = λ k p at. stand_before bs job count k p at below above;
    }

pub returns-then-job-eq0-clause-place : goal.returns-then-job-eq0-clause-place
returns-then-job-eq0-clause-place c =
    let bs = c.args.draft.now.processes.items in
    λ k p at same. place_is (declared_of c.args.draft.now) bs c.args.job 0 k p c.requires.declared refl at same (λ i b lt. absurd (omega arith)) (λ i b le lt. omega (arith, c.if-job-eq0.true))

pub returns-then-job-eq0-clause-those : goal.returns-then-job-eq0-clause-those
returns-then-job-eq0-clause-those c =
    let first = c.if-job-eq0.true in
    λ k p at. ((λ lt. omega (arith, lt)), (λ lt. omega (arith, lt, first)))
