use Rattle.wire_instances.specs.Views.{cast_by}
use Rattle.wire_cutoff.proofs.Judgement.{settled_choice}
use Rattle.wire_cutoff.proofs.judge.judge_instance.Goals as goal

pub returns-clause-settled : goal.returns-clause-settled
returns-clause-settled g c = λ e.
    settled_choice c.args.pattern.now (cast_by c.args.cast.now) c.in_ok-text.scripts c.note_sound.ensures c.requires c.instances_read.ensures c.settled_by_placing.ensures
    c.in_ok-text.ensures.reads (c.is_settled.ensures.ok e)
