use Rattle.std.proofs.Common.{◌≡◌, ◌++◌, drop}
use Rattle.wire_pattern.specs.Instances.{roles_from}
use Rattle.wire_instances.proofs.tables.roles_by.Given as goal

abbrev pub invariant-loop-number : goal.invariant-loop-number
invariant-loop-number l = l.roles.items ++ roles_from l.number (drop l.number l.sizes) ≡ roles_from 0 l.sizes
