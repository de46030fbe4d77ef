use Rattle.std.proofs.Common.{◌≡◌, map, take}
use Rattle.wire_procmap.specs.Keys.{key_kind}
use Rattle.wire_procmap.proofs.key.kinds_of.Given as goal

abbrev pub invariant-loop-number : goal.invariant-loop-number
invariant-loop-number l = l.kinds.items ≡ map key_kind (take l.number l.texts)
