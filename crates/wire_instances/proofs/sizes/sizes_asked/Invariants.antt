use Rattle.std.proofs.Common.{◌≡◌, map, take}
use Rattle.wire_pattern.specs.Views.{role_by}
use Rattle.wire_instances.specs.Asked as spec
use Rattle.wire_instances.specs.Asked.{asked_by}
use Rattle.wire_instances.proofs.sizes.sizes_asked.Given as goal

abbrev pub invariant-loop-role : goal.invariant-loop-role
invariant-loop-role l = l.sizes.items ≡ map (spec.size_asked (map asked_by l.asked)) (map role_by (take l.role-index l.roles))
