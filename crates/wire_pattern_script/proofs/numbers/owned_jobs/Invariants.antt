use Rattle.std.proofs.Common.{◌≡◌, map, take}
use Rattle.wire_pattern.specs.Views.{job_by}
use Rattle.wire_pattern_script.specs.Drafted.{job_of}
use Rattle.wire_pattern_script.proofs.numbers.owned_jobs.Given as goal

abbrev pub invariant-loop-job : goal.invariant-loop-job
invariant-loop-job l = record { so_far : map job_by l.owned.items ≡ map job_of (take l.job-index l.jobs) }
