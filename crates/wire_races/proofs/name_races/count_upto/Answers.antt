use Rattle.std.proofs.Common.{leb, rules}
use Rattle.std.proofs.lemmas.List.Sorted.{IsPartitionPoint-from_clause, IsPartitionedBy-leb}
use Rattle.wire_types.specs.declared.place.Event.{Event as CodeEvent}
use Rattle.wire_races.proofs.NameRaces.{processes_rise, cut_upto}
use Rattle.wire_races.proofs.name_races.count_upto.Goals as goal

pub returns-clause-cut : goal.returns-clause-cut
returns-clause-cut c = λ plan name are.
    let xs = c.args.calls.now in
    let p = c.args.proc.number in
    cut_upto p xs c.partition_point.result
    (IsPartitionPoint-from_clause (λ (y : CodeEvent). leb y.proc.number p) xs _ c.partition_point.ensures.partitioned
    (IsPartitionedBy-leb (λ (y : CodeEvent). y.proc.number) xs p (processes_rise xs are.rising)) (λ a r q h. search rules))
