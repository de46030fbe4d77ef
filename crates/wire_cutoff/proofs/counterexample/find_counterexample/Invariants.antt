use Rattle.wire_instances.specs.Views.{cast_by}
use Rattle.wire_cutoff.proofs.Pairs.{ArePairsSettled}
use Rattle.wire_cutoff.proofs.counterexample.find_counterexample.Given as goal

abbrev pub invariant-loop-a : goal.invariant-loop-a
invariant-loop-a g l = ArePairsSettled l.pattern (cast_by l.cast) l.total l.a
