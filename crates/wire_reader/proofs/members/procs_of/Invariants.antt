use Rattle.std.proofs.Common.{◌≡◌, take}
use Rattle.wire_scripts.specs.Scripts.{numbers_of}
use Rattle.wire_reader.proofs.members.procs_of.Given as goal

abbrev pub invariant-loop-number : goal.invariant-loop-number
invariant-loop-number l = numbers_of l.procs.items ≡ take l.number-index l.numbers
