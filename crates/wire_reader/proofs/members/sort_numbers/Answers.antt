use Rattle.std.proofs.lemmas.List.Filters.{dedup_is}
use Rattle.wire_reader.specs.Drafted.{declared_of}
use Rattle.wire_reader.proofs.NamedPlaces.{sorted_named}
use Rattle.wire_reader.proofs.members.sort_numbers.Goals as goal

pub returns : goal.returns
returns c =
    sorted_named (declared_of c.args.draft.now) c.args.targets.now c.in_ok-numbers.numbers.items _ _ c.in_ok-numbers.ensures c.sort_unstable.ensures.permutation c.sort_unstable.ensures.sorted
    (dedup_is _ _ _ c.dedup.ensures.filtered)
