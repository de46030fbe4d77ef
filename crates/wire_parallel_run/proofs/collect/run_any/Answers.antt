use Rattle.wire_parallel_run.proofs.collect.run_any.Goals as goal

pub tell_run-ran-requires : goal.tell_run-ran-requires
tell_run-ran-requires g c = c.in_ok-core-3.ensures.ended
