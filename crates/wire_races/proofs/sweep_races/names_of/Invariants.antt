use Rattle.wire_scripts.specs.Planned.{plan_of}
use Rattle.wire_races.proofs.SweepRaces.{ArePublishedBelow}
use Rattle.wire_races.proofs.sweep_races.names_of.Given as goal

abbrev pub invariant-loop-at : goal.invariant-loop-at
invariant-loop-at l = ArePublishedBelow (plan_of l.plan) l.proc.number l.at l.names.items
