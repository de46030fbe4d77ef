use Rattle.std.proofs.Common.{◌≡◌, ◌==◌, drop}
use Rattle.std.specs.List.{list_all}
use Rattle.wire_scripts.specs.Map.{job_at}
use Rattle.wire_scripts.specs.Scripts.{numbers_of}
use Rattle.wire_portable.proofs.fences.are_of_job.Given as goal

abbrev pub invariant-loop-member : goal.invariant-loop-member
invariant-loop-member l =
    list_all (λ n. job_at l.scripts.processes n == l.job) (numbers_of (drop l.member-index l.members))
    ≡ list_all (λ n. job_at l.scripts.processes n == l.job) (numbers_of l.members)
