use Rattle.std.proofs.Common.{◌==◌, ap}
use Rattle.std.specs.Prelude.{not}
use Rattle.wire_types.specs.Outcome.{Ends}
use Rattle.wire_pattern_commands.proofs.first_wait.has_waits.Goals as goal

pub returns-clause-ok : goal.returns-clause-ok
returns-clause-ok c = ap (λ (e : Ends). not (e.waiting == 0)) c.in_ok-outcome.ensures.ok
