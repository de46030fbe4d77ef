use Rattle.std.proofs.Common.{◌≡◌, ◌≤◌, take, length}
use Rattle.wire_witness.specs.Races.{races_of}
use Rattle.wire_witness.proofs.races.count_races.Given as goal

-- the races are counted of the findings so far
abbrev pub invariant-loop-number : goal.invariant-loop-number
invariant-loop-number l = record { counted : l.count ≡ length (races_of (take l.number l.list)); within : l.count ≤ l.number }
