use Rattle.std.proofs.Common.{◌∙◌, ◌++◌, ap, sym}
use Rattle.wire_types.specs.Said as said
use Rattle.wire_scripts.specs.Canonical.{line_text}
use Rattle.wire_instances.proofs.Loops.{jobs_step}
use Rattle.wire_instances.proofs.text.write_jobs.Goals as goal

pub loop-number-preserved : goal.loop-number-preserved
loop-number-preserved c =
    let f = c.args.excerpt.now.frame in
    jobs_step f.pattern f.cast c.jobs-jobs.result.now c.loop-number.number c.index-jobs-number.result c.args.excerpt.now.wanted c.loop-number.out.items
    c.write_job_line.new.out.items c.write_members.new.out.items _
    (c.jobs-jobs.ensures ∙ ap (λ p. p.jobs) c.pattern.ensures) c.loop-number-test.true c.index-jobs-number.is
    (c.in_ok-write_job_line.ensures ∙ ap (λ t. c.loop-number.out.items ++ line_text (said.Job t)) c.as_slice.ensures.value ∙ ap (λ j. c.loop-number.out.items ++ line_text (said.Job j.name.items)) (sym c.index-jobs-number.is)) c.in_ok-write_members.ensures c.loop-number.invariant
