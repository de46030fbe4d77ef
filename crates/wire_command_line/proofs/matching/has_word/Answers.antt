use Rattle.std.proofs.Common.{◌∙◌}
use Rattle.clap.specs.Words.{found_of}
use Rattle.wire_command_line.proofs.Given.{is_given}
use Rattle.wire_command_line.proofs.matching.has_word.Goals as goal

pub returns : goal.returns
returns c = c.is_some.ensures ∙ is_given c.get_str.result (found_of c.args.found.now) c.args.name.now c.get_str.ensures
