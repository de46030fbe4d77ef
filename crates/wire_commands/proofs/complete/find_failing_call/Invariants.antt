use Rattle.wire_types.specs.Outcome.{ends_of}
use Rattle.wire_commands.proofs.Failures.{Succeed}
use Rattle.wire_commands.proofs.complete.find_failing_call.Given as goal

abbrev pub invariant-loop-call : goal.invariant-loop-call
invariant-loop-call l = Succeed (ends_of l.outcome) l.proc.number l.call
