use Rattle.std.proofs.Common.{◌∙◌, ap}
use Rattle.wire_pattern_commands.specs.Beyond as spec
use Rattle.wire_pattern_commands.proofs.beyond.has_groups.Goals as goal

pub returns : goal.returns
returns c = c.any_group.ensures ∙ ap spec.has_groups c.roles.ensures.roles
