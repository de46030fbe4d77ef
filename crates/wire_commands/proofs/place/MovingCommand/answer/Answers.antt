use Rattle.wire_command.proofs.Handed.{handed_on}
use Rattle.wire_commands.proofs.Moved.{no_read_of_ranks}
use Rattle.wire_commands.proofs.place.MovingCommand.answer.Goals as goal

pub returns-in_err-text-clause-no_read : goal.returns-in_err-text-clause-no_read
returns-in_err-text-clause-no_read c =
    handed_on c.from_residual.result c.in_err-text.field-0.0 _ c.from_residual.ensures.1 (no_read_of_ranks c.args.scripts c.args.self.now.word.now _ c.in_err-text.ensures.err)
