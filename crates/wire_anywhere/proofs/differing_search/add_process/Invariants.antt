use Rattle.wire_scripts.specs.Planned.{plan_of}
use Rattle.wire_anywhere.specs.Differing.{AreToldTo, AddsDiffering}
use Rattle.wire_anywhere.proofs.differing_search.add_process.Given as goal

abbrev pub invariant-loop-at : goal.invariant-loop-at
invariant-loop-at l = AddsDiffering l.initial.found.items l.found.items (AreToldTo (plan_of l.marked) l.proc.number l.at)
