use Rattle.wire_runs.proofs.Basics.{process_within}
use Rattle.wire_scripts.specs.Planned.{plan_of}
use Rattle.wire_portable.proofs.sure.is_left_there.Goals as goal

pub has_job_member-requires-clause-get : goal.has_job_member-requires-clause-get
has_job_member-requires-clause-get c = process_within (plan_of c.args.judge.now) c.args.get.proc.number c.args.get.at _ c.requires.get.is

pub has_left-requires-clause-get : goal.has_left-requires-clause-get
has_left-requires-clause-get c = process_within (plan_of c.args.judge.now) c.args.get.proc.number c.args.get.at _ c.requires.get.is

pub returns : goal.returns
returns c = λ t. record { other = c.has_job_member.ensures c.if-not-has_job_member.false; left = c.has_left.ensures t }
