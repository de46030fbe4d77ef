use Rattle.std.proofs.Common.{◌∙◌, ◌∷◌, [], ap, sym}
use Rattle.wire_instances.specs.Search.{past}
use Rattle.wire_instances.proofs.Loops.{job_numbers}
use Rattle.wire_instances.proofs.numbers.pass_jobs.Goals as goal

pub loop-number-preserved : goal.loop-number-preserved
loop-number-preserved c =
    let f = c.args.frame.now in
    job_numbers f.pattern f.cast c.jobs-jobs.result.now c.loop-number.number c.index-jobs-number.result c.loop-number.search c.pass.new.self
    c.pass_members.new.search _
    (c.jobs-jobs.ensures ∙ ap (λ p. p.jobs) c.pattern.ensures) c.loop-number-test.true c.index-jobs-number.is
    (c.pass.ensures ∙ ap (λ j. past c.loop-number.search (j.number ∷ [])) (sym c.index-jobs-number.is)) c.in_ok-pass_members.ensures c.loop-number.invariant
