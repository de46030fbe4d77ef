use Rattle.wire_instances.specs.Views.{cast_by}
use Rattle.wire_cutoff.proofs.Pairs.{AreBesideSettled}
use Rattle.wire_cutoff.proofs.counterexample.find_beside.Given as goal

abbrev pub invariant-loop-b : goal.invariant-loop-b
invariant-loop-b g l = AreBesideSettled l.pattern (cast_by l.cast) l.a l.b
