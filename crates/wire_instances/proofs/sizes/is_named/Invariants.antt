use Rattle.std.proofs.Common.{◌≡◌, map, drop}
use Rattle.wire_instances.specs.Asked as spec
use Rattle.wire_instances.specs.Asked.{asked_by}
use Rattle.wire_instances.proofs.sizes.is_named.Given as goal

abbrev pub invariant-loop-other : goal.invariant-loop-other
invariant-loop-other l = spec.is_named (map asked_by (drop l.other-index l.asked)) l.name ≡ spec.is_named (map asked_by l.asked) l.name
