use Rattle.std.proofs.Common.{◌≡◌, ◌∙◌, None, Some, length}
use Rattle.std.specs.Prelude.{position}
use Rattle.std.specs.Str.{bytes_eq}
use Rattle.wire_pattern.specs.Pattern.{JobLine}
use Rattle.wire_pattern_script.specs.Drafted.{job_of}
use Rattle.wire_pattern_script.proofs.Mapped.{number_found, number_none}
use Rattle.wire_pattern_script.proofs.numbers.job_number.Goals as goal

pub returns-in-Some : goal.returns-in-Some
returns-in-Some c =
    let at : Some c.in-Some.number ≡ position (λ x. bytes_eq c.args.name.now x.name.now) c.args.draft.now.jobs.items = rw c.deref.ensures.value at c.in-Some.ensures in
    number_found job_of (λ (y : JobLine). y.name) (bytes_eq c.args.name.now) c.args.draft.now.jobs.items c.in-Some.number at

pub returns-in-None : goal.returns-in-None
returns-in-None c =
    let at : None ≡ position (λ x. bytes_eq c.args.name.now x.name.now) c.args.draft.now.jobs.items = rw c.deref.ensures.value at c.in-None.ensures in
    (let n : c.len.result ≡ length c.args.draft.now.jobs.items = cc in n) ∙ number_none job_of (λ (y : JobLine). y.name) (bytes_eq c.args.name.now) c.args.draft.now.jobs.items at
