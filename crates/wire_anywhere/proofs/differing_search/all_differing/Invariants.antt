use Rattle.wire_scripts.specs.Planned.{plan_of}
use Rattle.wire_anywhere.specs.Differing.{AreToldBelow}
use Rattle.wire_anywhere.proofs.differing_search.all_differing.Given as goal

abbrev pub invariant-loop-number : goal.invariant-loop-number
invariant-loop-number l = AreToldBelow (plan_of l.marked) l.number l.found.items
