use Rattle.std.proofs.Common.{sym, ◌∙◌}
use Rattle.std.proofs.lemmas.Bool.{true≢false}
use Rattle.wire_runs.specs.Plan.{event_of}
use Rattle.wire_scripts.specs.Planned.{plan_of}
use Rattle.wire_fates.proofs.LiveDone.{only_lookups_wait}
use Rattle.wire_fates.proofs.waiting.waits_for_ever.Goals as goal

pub returns-then-not-is_lookup_wait : goal.returns-then-not-is_lookup_wait
returns-then-not-is_lookup_wait c = (
  (λ t. absurd (true≢false (sym t))),
  (λ w.
      let lookup = only_lookups_wait (plan_of c.args.marked.now) c.requires.settled (event_of c.args.event) w.live w.waits in
      absurd (true≢false (sym ((rw c.plan.ensures at c.is_lookup_wait.ensures).1 lookup) ∙ c.if-not-is_lookup_wait.true))),
)

pub returns-else-live : goal.returns-else-live
returns-else-live c = (
  (λ t. absurd (true≢false (sym t ∙ c.if-live.false))),
  (λ w. c.live.ensures.1 w.live),
)
