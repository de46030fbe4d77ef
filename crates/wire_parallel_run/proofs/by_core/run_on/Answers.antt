use Rattle.wire_parallel_run.proofs.by_core.run_on.Goals as goal

pub returns-then-ended-clause-ended : goal.returns-then-ended-clause-ended
returns-then-ended-clause-ended c = c.ended-ended.ensures.0 c.if-ended.true
