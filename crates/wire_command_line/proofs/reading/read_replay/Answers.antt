use Rattle.std.proofs.Common.{◌∙◌, ap, refl}
use Rattle.wire_command_line.specs.Workers.{workers_said}
use Rattle.wire_command_line.proofs.reading.read_replay.Goals as goal

pub returns : goal.returns
returns c = (refl, c.in-Some.ensures ∙ ap workers_said c.workers_given.ensures, c.is_set.ensures, c.is_set-2.ensures)
