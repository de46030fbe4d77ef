use Rattle.wire_scripts.specs.Planned.{plan_of}
use Rattle.wire_pattern_stages.specs.Lookups.{AreForOne}
use Rattle.wire_pattern_stages.proofs.lookups.is_process_for_one.Given as goal

abbrev pub invariant-loop-at : goal.invariant-loop-at
invariant-loop-at l = AreForOne (plan_of l.plan) l.proc.number l.at
