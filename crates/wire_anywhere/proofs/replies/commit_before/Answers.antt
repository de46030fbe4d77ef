use Rattle.std.proofs.Common.{◌≡◌, ◌∙◌, ap, sym, subst}
use Rattle.std.proofs.lemmas.Bool.{true≢false}
use Rattle.wire_runs.specs.Plan.{event_of}
use Rattle.wire_runs.specs.Order.{Before}
use Rattle.wire_scripts.specs.Planned.{plan_of}
use Rattle.wire_anywhere.proofs.PlacedReplies.{one_store}
use Rattle.wire_anywhere.proofs.replies.commit_before.Goals as goal

pub returns-else-before : goal.returns-else-before
returns-else-before c = λ commit same stores before.
    let found = rw c.plan.ensures at c.in-Some.ensures in
    let e : commit ≡ event_of c.in-Some.commit = one_store (plan_of c.args.marked.now) c.args.asked.key commit (event_of c.in-Some.commit) (same ∙ sym (ap (λ q. q.number) found.0)) stores found.1 in
    true≢false (sym (c.if-before.ensures.1 (subst (λ v. Before (plan_of c.args.marked.now) v (event_of c.args.asked.get_now)) e before)))
