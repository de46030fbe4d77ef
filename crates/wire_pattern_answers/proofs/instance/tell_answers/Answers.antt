use Rattle.wire_instances.specs.Views.{cast_by}
use Rattle.wire_pattern_answers.proofs.Selected.{selection_told}
use Rattle.wire_pattern_answers.proofs.instance.tell_answers.Goals as goal

pub returns-clause-ok : goal.returns-clause-ok
returns-clause-ok c = λ selection is settled noted.
    selection_told c.args.pattern.now selection (cast_by c.args.cast.now) c.roles-roles.ensures.sound settled c.requires is
    c.instances_read.ensures c.few_placings_tell.ensures c.args.told.now c.tell_instance.new.told (c.in_ok-tell_instance.ensures.ok noted)
