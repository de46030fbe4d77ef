use Rattle.std.proofs.Common.{◌∙◌, ap}
use Rattle.std.specs.List.{list_any}
use Rattle.std.specs.Str.{bytes_eq}
use Rattle.wire_pattern.specs.Pattern.{JobLine}
use Rattle.wire_pattern_script.specs.Drafted.{job_of}
use Rattle.wire_pattern_script.proofs.Mapped.{any_of_two}
use Rattle.wire_pattern_script.proofs.first_pass.has_job.Goals as goal

pub returns : goal.returns
returns c =
    c.is_job_among.ensures ∙ ap (list_any (λ x. bytes_eq c.args.name.now x.name.now)) c.deref.ensures.value
    ∙ any_of_two job_of (λ (y : JobLine). y.name) (bytes_eq c.args.name.now) c.args.draft.now.jobs.items
