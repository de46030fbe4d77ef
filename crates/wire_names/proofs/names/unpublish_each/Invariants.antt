use Rattle.std.proofs.Common.{◌≡◌, map, take, drop, ◌++◌}
use Rattle.wire_names.specs.Names.{after_unpublish}
use Rattle.wire_names.proofs.names.unpublish_each.Given as goal

abbrev pub invariant-loop-standing : goal.invariant-loop-standing
invariant-loop-standing l = l.table ≡ map (after_unpublish l.proc.number) (take l.standing-index l.fn.table) ++ drop l.standing-index l.fn.table
