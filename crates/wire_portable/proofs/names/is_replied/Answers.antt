use Rattle.std.proofs.Common.{◌∙◌, sym}
use Rattle.std.proofs.lemmas.Bool.{true≢false}
use Rattle.wire_scripts.specs.Planned.{plan_of}
use Rattle.wire_runs.specs.Plan.{event_of}
use Rattle.wire_fates.proofs.Fates.{reply_told}
use Rattle.wire_portable.proofs.NamesFound.{replied_done, not_after}
use Rattle.wire_portable.proofs.names.is_replied.Goals as goal

pub returns-then-not-has_status : goal.returns-then-not-has_status
returns-then-not-has_status c = λ s answer r is tells. absurd (true≢false (sym (c.has_status.ensures (reply_told (plan_of c.args.marked.now) c.requires.settled (event_of c.args.event) c.fate_of.result c.fate_of.ensures s answer r is ∙ tells)) ∙ c.if-not-has_status.true))

pub returns : goal.returns
returns c = λ s answer r is tells. not_after c.is_after_some.result (λ t. c.is_after_some.ensures t s r (replied_done (plan_of c.args.marked.now) s (event_of c.args.event) answer c.requires.settled r is))
