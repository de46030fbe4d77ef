use Rattle.std.proofs.Common.{◌≡◌, drop}
use Rattle.wire_pattern.specs.Instances.{jobs_lines}
use Rattle.wire_instances.specs.Search.{past}
use Rattle.wire_instances.proofs.numbers.pass_jobs.Given as goal

abbrev pub invariant-loop-number : goal.invariant-loop-number
invariant-loop-number l =
    past l.search (jobs_lines l.frame.pattern l.frame.cast l.number (drop l.number l.frame.pattern.jobs))
    ≡ past l.fn.search (jobs_lines l.frame.pattern l.frame.cast 0 l.frame.pattern.jobs)
