use Rattle.std.proofs.Common.{◌∙◌, ap}
use Rattle.std.specs.Prelude.{slice_get}
use Rattle.wire_pattern.specs.Instances.{job_in}
use Rattle.wire_instances.proofs.Found.{job_found}
use Rattle.wire_instances.proofs.frame.Frame.job.Goals as goal

pub returns : goal.returns
returns c =
    let f = c.args.self.now in
    c.job_of.ensures ∙ ap (λ rs. job_in (slice_get rs c.role.result)) (c.roles.ensures.roles ∙ ap (λ p. p.roles) c.pattern.ensures) ∙ ap (λ r. job_in (slice_get f.pattern.roles r)) c.role.ensures
    ∙ job_found f.pattern f.cast c.args.process c.requires
