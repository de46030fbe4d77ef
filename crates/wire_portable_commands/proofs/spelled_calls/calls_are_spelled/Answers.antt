use Rattle.wire_portable_commands.proofs.SpelledLines.{calls_are_spelled}
use Rattle.wire_portable_commands.proofs.spelled_calls.calls_are_spelled.Goals as goal

pub returns : goal.returns
returns c = calls_are_spelled
