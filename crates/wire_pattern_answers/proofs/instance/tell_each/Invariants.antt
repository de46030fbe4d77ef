use Rattle.wire_instances.specs.Views.{cast_by}
use Rattle.wire_pattern_answers.specs.Notes.{IsAnsweredByOne, AreToldToo}
use Rattle.wire_pattern_answers.proofs.instance.tell_each.Given as goal

abbrev pub invariant-loop-rank : goal.invariant-loop-rank
invariant-loop-rank l = AreToldToo l.fn.told l.told (IsAnsweredByOne l.pattern (cast_by l.cast) l.rank)
