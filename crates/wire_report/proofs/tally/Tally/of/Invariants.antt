use Rattle.std.proofs.Common.{take}
use Rattle.wire_report.specs.Tally.{IsLabelTally}
use Rattle.wire_report.proofs.tally.Tally.of.Given as goal

abbrev pub invariant-loop-place : goal.invariant-loop-place
invariant-loop-place g l = IsLabelTally g.K.PartialEq.eq (take l.place l.labels) l.tally
