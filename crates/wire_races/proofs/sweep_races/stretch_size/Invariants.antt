use Rattle.std.proofs.Common.{take}
use Rattle.wire_races.specs.SweepRaces.{AreSharesOf}
use Rattle.wire_races.proofs.sweep_races.stretch_size.Given as goal

abbrev pub invariant-loop-place : goal.invariant-loop-place
invariant-loop-place l = AreSharesOf l.proc.number (take l.place l.shares)
