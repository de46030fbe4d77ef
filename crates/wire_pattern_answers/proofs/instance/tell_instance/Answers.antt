use Rattle.wire_instances.specs.Views.{cast_by}
use Rattle.wire_pattern_answers.specs.Notes.{IsAnsweredThere}
use Rattle.wire_pattern_answers.proofs.Tellings.{told_too}
use Rattle.wire_pattern_answers.proofs.instance.tell_instance.Goals as goal

pub returns-clause-ok : goal.returns-clause-ok
returns-clause-ok c = λ noted. record {
  between = c.add_all.new.self;
  there = told_too c.args.told.now c.add_all.new.self c.args.notes.now (IsAnsweredThere c.args.pattern.now (cast_by c.args.cast.now)) noted c.in_ok-add_all.ensures;
  together = c.in_ok-tell_together.ensures.ok;
}
