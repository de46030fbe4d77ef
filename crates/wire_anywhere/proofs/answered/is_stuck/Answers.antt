use Rattle.std.proofs.Common.{sym}
use Rattle.std.proofs.lemmas.Bool.{true≢false}
use Rattle.wire_runs.specs.Plan.{event_of}
use Rattle.wire_scripts.specs.Planned.{plan_of}
use Rattle.wire_runs.proofs.Fates.{live_within}
use Rattle.wire_fates.proofs.Fates.{waits_exactly}
use Rattle.wire_anywhere.proofs.Coming.{never_stuck}
use Rattle.wire_anywhere.proofs.answered.is_stuck.Goals as goal

pub kind-requires : goal.kind-requires
kind-requires c = rw c.plan.ensures (live_within (plan_of c.args.marked.now) (event_of c.args.event) c.requires.live)

pub returns-in_default-matches : goal.returns-in_default-matches
returns-in_default-matches c =
    let w = waits_exactly (plan_of c.args.marked.now) c.requires.settled (event_of c.args.event) c.fate_of.result c.fate_of.ensures in (
      (λ t. absurd (true≢false (sym t))),
      (λ s. absurd (c.in_default-matches.not-Waits (w.1 s.waits))),
    )

pub returns-in_default : goal.returns-in_default
returns-in_default c = (
  (λ t. absurd (true≢false (sym t))),
  (λ s. absurd (never_stuck (plan_of c.args.marked.now) c.requires.settled (event_of c.args.event) c.args.marked.now.sets c.kind.result (rw c.plan.ensures at c.kind.ensures) c.in_default.not-LookupWait s)),
)
