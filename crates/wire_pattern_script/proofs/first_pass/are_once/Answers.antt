use Rattle.std.proofs.Common.{◌∙◌}
use Rattle.wire_pattern_script.proofs.Mapped.{once_texts}
use Rattle.wire_pattern_script.proofs.first_pass.are_once.Goals as goal

pub returns : goal.returns
returns c = c.are_each_once.ensures ∙ once_texts c.args.names.now c.args.names.now
