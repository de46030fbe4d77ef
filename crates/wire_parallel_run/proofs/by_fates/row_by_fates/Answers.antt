use Rattle.std.proofs.Common.{◌∙◌, ◌++◌, ap, false}
use Rattle.std.specs.Prelude.{nat_lt}
use Rattle.wire_scripts.specs.Planned.{plan_of}
use Rattle.wire_runs.specs.Ends.{unanswered}
use Rattle.wire_parallel_run.proofs.ByFates.{row_is, waits_is}
use Rattle.wire_parallel_run.proofs.by_fates.row_by_fates.Goals as goal

pub returns-clause-row : goal.returns-clause-row
returns-clause-row c =
    row_is (plan_of c.args.settled.now) c.args.proc.number _ _ _ _ c.in_ok-ends.ensures.ends (c.len-replied.ensures ∙ c.in_ok-ends.ends.ok.0) (rw c.plan-plan.ensures.same at c.call_count-calls.ensures)
    (c.in_ok-add_unanswered.ensures ∙ ap (λ n. c.in_ok-ends.ends.items ++ unanswered false n) c.saturating_sub.ensures)

pub returns-clause-waiting : goal.returns-clause-waiting
returns-clause-waiting c =
    ap (nat_lt c.in_ok-ends.done) (rw c.plan-plan.ensures.same at c.event_count.ensures) ∙ waits_is (plan_of c.args.settled.now) c.args.proc.number _ c.in_ok-ends.ensures.done
