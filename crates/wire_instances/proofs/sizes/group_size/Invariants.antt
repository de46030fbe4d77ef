use Rattle.std.proofs.Common.{◌≡◌, map, drop}
use Rattle.wire_pattern.specs.Views.{role_by}
use Rattle.wire_instances.specs.Asked as spec
use Rattle.wire_instances.specs.Asked.{asked_by}
use Rattle.wire_instances.proofs.sizes.group_size.Given as goal

abbrev pub invariant-loop-one : goal.invariant-loop-one
invariant-loop-one l = spec.group_size (map asked_by (drop l.one-index l.asked)) (role_by l.role) ≡ spec.group_size (map asked_by l.asked) (role_by l.role)
