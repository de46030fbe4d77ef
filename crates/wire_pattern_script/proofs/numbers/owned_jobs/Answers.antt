use Rattle.std.proofs.Common.{ap, refl, map}
use Rattle.wire_pattern.specs.Views.{job_by}
use Rattle.wire_pattern_script.specs.Drafted.{job_of}
use Rattle.wire_pattern_script.proofs.Mapped.{pushed_one, whole_one}
use Rattle.wire_pattern_script.proofs.numbers.owned_jobs.Goals as goal

pub loop-job-init : goal.loop-job-init
loop-job-init c = record { so_far = ap (map job_by) c.in_ok-owned.ensures.items }

pub loop-job-preserved : goal.loop-job-preserved
loop-job-preserved c = record {
  so_far = rw c.in_ok-push.ensures.items (pushed_one job_by job_of c.loop-job.owned.items c.args.jobs.now c.loop-job.job-index c.in_ok-made.made _ _ c.loop-job-test.true refl c.loop-job.invariant.so_far c.in_ok-made.ensures);
}

pub returns : goal.returns
returns c = whole_one job_by job_of c.loop-job.owned.items c.args.jobs.now c.loop-job.job-index c.loop-job-test.false c.loop-job.invariant.so_far
