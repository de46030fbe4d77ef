use Rattle.std.proofs.Common.{◌∙◌, ap, sym}
use Rattle.wire_pattern.specs.Instances.{job_name}
use Rattle.wire_instances.proofs.Found.{name_found}
use Rattle.wire_instances.proofs.words.job_name.Goals as goal

pub returns-then-job-jobs : goal.returns-then-job-jobs
returns-then-job-jobs c =
    c.as_slice.ensures.value ∙ ap (λ j. j.name.items) (sym c.index-jobs-job.is) ∙ name_found c.pattern.result.now c.jobs-jobs.result.now c.args.job c.index-jobs-job.result c.jobs-jobs.ensures c.if-job-jobs.true c.index-jobs-job.is
    ∙ ap (λ p. job_name p c.args.job) c.pattern.ensures
