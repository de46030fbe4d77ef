use Rattle.std.proofs.Common.{sym}
use Rattle.std.proofs.lemmas.Bool.{true≢false}
use Rattle.wire_runs.specs.Plan.{event_of}
use Rattle.wire_scripts.specs.Planned.{plan_of}
use Rattle.wire_fates.proofs.Fates.{waits_exactly}
use Rattle.wire_fates.proofs.waiting.is_to_wait.Goals as goal

pub returns-in_default : goal.returns-in_default
returns-in_default c = (
  (λ t. absurd (true≢false (sym t))),
  (λ w. absurd (c.in_default.not-Waits ((waits_exactly (plan_of c.args.marked.now) c.requires (event_of c.args.event) c.fate_of.result c.fate_of.ensures).1 w))),
)
