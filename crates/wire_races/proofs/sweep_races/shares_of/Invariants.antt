use Rattle.std.proofs.Common.{take}
use Rattle.wire_scripts.specs.Planned.{plan_of}
use Rattle.wire_races.specs.SweepRaces.{AreShares}
use Rattle.wire_races.proofs.sweep_races.shares_of.Given as goal

abbrev pub invariant-loop-name : goal.invariant-loop-name
invariant-loop-name l = AreShares (plan_of l.plan) l.proc.number (take l.name-index l.names) l.shares.items
