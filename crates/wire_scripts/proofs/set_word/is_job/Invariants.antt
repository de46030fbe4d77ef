use Rattle.std.proofs.Common.{◌≡◌, drop}
use Rattle.std.specs.Str.{bytes_eq as same_members}
use Rattle.wire_scripts.specs.Scripts.{numbers_of}
use Rattle.wire_scripts.specs.Canonical.{members_from, job_members}
use Rattle.wire_scripts.proofs.set_word.is_job.Given as goal

abbrev pub invariant-loop-number : goal.invariant-loop-number
invariant-loop-number l =
    same_members (numbers_of l.rest) (members_from l.number l.job (drop l.number l.process-items)) ≡ same_members (numbers_of l.set) (job_members l.scripts.processes l.job)
