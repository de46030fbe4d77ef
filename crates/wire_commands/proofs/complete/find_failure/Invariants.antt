use Rattle.wire_types.specs.Outcome.{ends_of}
use Rattle.wire_commands.proofs.Failures.{Below}
use Rattle.wire_commands.proofs.complete.find_failure.Given as goal

abbrev pub invariant-loop-number : goal.invariant-loop-number
invariant-loop-number l = Below l.scripts (ends_of l.outcome) l.number
