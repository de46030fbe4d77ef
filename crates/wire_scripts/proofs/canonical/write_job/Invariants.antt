use Rattle.std.proofs.Common.{◌≡◌, ◌++◌, ◌==◌, drop, filter, flat_map}
use Rattle.wire_scripts.specs.Scripts.{text_at}
use Rattle.wire_scripts.specs.Canonical.{line_text, process_said, job_said}
use Rattle.wire_scripts.proofs.canonical.write_job.Given as goal

abbrev pub invariant-loop-process : goal.invariant-loop-process
invariant-loop-process l = l.out.items ++ flat_map line_text (flat_map (process_said l.scripts) (filter (λ p. p.job == l.job) (drop l.process-index l.process-items))) ≡ l.fn.out.items
    ++ flat_map line_text (job_said l.scripts l.job (text_at l.scripts.jobs l.job))
