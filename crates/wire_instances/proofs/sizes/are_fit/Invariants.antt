use Rattle.std.proofs.Common.{◌≡◌, map, drop}
use Rattle.wire_pattern.specs.Views.{role_by}
use Rattle.wire_instances.specs.Asked as spec
use Rattle.wire_instances.specs.Asked.{asked_by}
use Rattle.wire_instances.proofs.sizes.are_fit.Given as goal

abbrev pub invariant-loop-number : goal.invariant-loop-number
invariant-loop-number l = spec.are_fit (map role_by l.roles) (map asked_by (drop l.number l.asked)) ≡ spec.are_fit (map role_by l.roles) (map asked_by l.asked)
