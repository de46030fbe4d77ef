use Rattle.std.proofs.Common.{take}
use Rattle.wire_scripts.specs.Scripts.{numbers_of}
use Rattle.wire_races.specs.SweepRaces.{AddsShares}
use Rattle.wire_races.proofs.sweep_races.add_shares.Given as goal

abbrev pub invariant-loop-higher : goal.invariant-loop-higher
invariant-loop-higher l = AddsShares l.proc.number l.name (numbers_of (take l.higher-index l.procs)) l.initial.shares.items l.shares.items
