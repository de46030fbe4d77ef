use Rattle.wire_pattern.specs.Instances.{job_name}
use Rattle.wire_instances.proofs.Wholes.{job_written}
use Rattle.wire_instances.proofs.words.write_job.Goals as goal

pub returns : goal.returns
returns c =
    job_written c.extend_from_slice-2.result c.args.out.now.items c.extend_from_slice.new.self.items c.extend_from_slice-2.new.self.items c.job_name.result.now
    (job_name c.args.frame.now.pattern c.args.job) c.as_slice.result.now
    c.in_ok-extend_from_slice.ensures.items c.job_name.ensures c.as_slice.ensures c.extend_from_slice-2.ensures.items
