use Rattle.wire_scripts.specs.Scripts.{numbers_of}
use Rattle.wire_instances.specs.Views.{cast_by}
use Rattle.wire_pattern_answers.proofs.ReadOnce.{noted_apart}
use Rattle.wire_pattern_answers.proofs.instance.placed_notes.Goals as goal

pub returns-clause-ok : goal.returns-clause-ok
returns-clause-ok c =
    noted_apart c.args.pattern.now (cast_by c.args.cast.now) c.in_ok-text.scripts c.in_ok-notes.notes.items c.reads_once.ensures c.in_ok-text.ensures.reads
    c.in_ok-placed.placed (numbers_of c.args.ranks.now) c.in_ok-placed.ensures.scripts c.in_ok-notes.ensures.ok
