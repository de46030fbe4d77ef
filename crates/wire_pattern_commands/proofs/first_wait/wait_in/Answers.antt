use Rattle.std.proofs.Common.{refl}
use Rattle.wire_pattern_commands.proofs.FirstWaits.{none_waits, some_waits}
use Rattle.wire_pattern_commands.proofs.first_wait.wait_in.Goals as goal

pub returns-then-not-waits-clause-ok : goal.returns-then-not-waits-clause-ok
returns-then-not-waits-clause-ok c = none_waits c.args.scripts c.in_ok-plan.plan c.in-Ok.waits c.in_ok-plan.ensures.ok c.in-Ok.ensures.ok c.if-not-waits.true

pub returns-else-not-waits-clause-ok : goal.returns-else-not-waits-clause-ok
returns-else-not-waits-clause-ok c = (
  refl,
  refl,
  refl,
  c.in_ok-plan.ensures.ok,
  some_waits c.args.scripts c.in_ok-plan.plan c.in-Ok.waits c.in_ok-plan.ensures.ok c.in-Ok.ensures.ok c.if-not-waits.false,
)
