use Rattle.std.proofs.Common.{◌≡◌, ◌++◌, drop, flat_map}
use Rattle.wire_scripts.specs.Canonical.{line_text, jobs_said}
use Rattle.wire_scripts.proofs.canonical.write_jobs.Given as goal

abbrev pub invariant-loop-job : goal.invariant-loop-job
invariant-loop-job l = l.out.items ++ flat_map line_text (jobs_said l.scripts l.job (drop l.job l.scripts.jobs)) ≡ l.fn.out.items ++ flat_map line_text (jobs_said l.scripts 0 l.scripts.jobs)
