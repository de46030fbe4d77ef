use Rattle.std.proofs.Common.{take}
use Rattle.wire_reader.specs.Drafted.{declared_of}
use Rattle.wire_reader.specs.Targets.{AreTargetNumbers}
use Rattle.wire_reader.proofs.members.gather_numbers.Given as goal

abbrev pub invariant-loop-target : goal.invariant-loop-target
invariant-loop-target l = AreTargetNumbers (declared_of l.draft) (take l.target-index l.targets) l.numbers.items
