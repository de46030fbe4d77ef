use Rattle.std.proofs.Common.{◌≡◌, take}
use Rattle.wire_witness.specs.Races.{races_of}
use Rattle.wire_witness.proofs.races.take_races.Given as goal

-- the first races of the findings so far
abbrev pub invariant-loop-number : goal.invariant-loop-number
invariant-loop-number l = l.races.items ≡ take l.most (races_of (take l.number l.list))
