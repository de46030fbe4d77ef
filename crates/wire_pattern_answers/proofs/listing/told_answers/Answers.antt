use Rattle.wire_pattern_answers.proofs.OfLines.{told_are}
use Rattle.wire_pattern_answers.proofs.Three.{answers_three}
use Rattle.wire_pattern_answers.proofs.listing.told_answers.Goals as goal

pub returns : goal.returns
returns c = λ are settled told.
    told_are c.args.pattern.now c.args.told.now c.args.lines.now c.in_ok-answers.answers.items c.in_ok-answers.ensures are told
    (answers_three c.args.pattern.now c.roles-roles.ensures.sound c.instances_read.ensures c.three_statuses.ensures settled c.requires)
