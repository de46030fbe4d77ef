use Rattle.std.proofs.Common.{◌≡◌, ◌<◌, subst}
use Rattle.std.specs.Prelude.{◌≢◌, ◌↔◌}
use Rattle.wire_scripts.specs.Planned.{plan_of}
use Rattle.wire_runs.specs.Plan.{event_of, event_count}
use Rattle.wire_runs.specs.Fate.{HasFate, Waits}
use Rattle.wire_fates.specs.declared.fate.Fate.TheVariants as code
use Rattle.wire_fates.specs.Fates.{TellsReply, TellsEnabled}
use Rattle.wire_fates.proofs.Fates.{waits_exactly, there_if, reply_told, enabled_told}
use Rattle.wire_fates.proofs.settled.Settled.fate.Goals as goal

pub returns-clause-waits : goal.returns-clause-waits
returns-clause-waits c =
    subst (λ s. (c.fate_of.result ≡ code.Waits) ↔ HasFate (plan_of s) (event_of c.args.event) Waits) c.self.view_is
    (waits_exactly (plan_of c.self.inside.plan) c.self.invariant.0 (event_of c.args.event) c.fate_of.result (rw c.with.ensures at c.fate_of.ensures))

pub returns-clause-there : goal.returns-clause-there
returns-clause-there c =
    subst (λ s. c.fate_of.result ≢ code.Waits → c.args.event.at < event_count (plan_of s) c.args.event.proc.number) c.self.view_is
    (there_if (plan_of c.self.inside.plan) c.self.invariant.0 (event_of c.args.event) c.fate_of.result (rw c.with.ensures at c.fate_of.ensures))

pub returns-clause-reply : goal.returns-clause-reply
returns-clause-reply c =
    subst (λ s. TellsReply (plan_of s) (event_of c.args.event) c.fate_of.result) c.self.view_is
    (reply_told (plan_of c.self.inside.plan) c.self.invariant.0 (event_of c.args.event) c.fate_of.result (rw c.with.ensures at c.fate_of.ensures))

pub returns-clause-enabled : goal.returns-clause-enabled
returns-clause-enabled c =
    subst (λ s. TellsEnabled (plan_of s) (event_of c.args.event) c.fate_of.result) c.self.view_is
    (enabled_told (plan_of c.self.inside.plan) c.self.invariant.0 (event_of c.args.event) c.fate_of.result (rw c.with.ensures at c.fate_of.ensures))
