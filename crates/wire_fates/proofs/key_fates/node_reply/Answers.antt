use Rattle.std.proofs.Common.{ap, refl, sym, ◌∷◌, []}
use Rattle.std.proofs.lemmas.Bool.{true≢false}
use Rattle.wire_runs.specs.Plan.{event_of}
use Rattle.wire_scripts.specs.Planned.{plan_of}
use Rattle.wire_fates.proofs.KeyFates.{served_after, served_before, served_never}
use Rattle.wire_fates.proofs.key_fates.node_reply.Goals as goal

pub returns-then-before : goal.returns-then-before
returns-then-before c =
    let plan = plan_of c.args.marked.now in
    served_after plan c.requires.settled (event_of c.args.put) c.args.key c.requires.put (event_of c.args.event) (event_of c.in-Some.commit) c.served_reply.result
    (ap (λ q. q.number) (rw c.plan-plan.ensures at c.in-Some.ensures).0) (rw c.plan-plan.ensures at c.in-Some.ensures).1
    (c.if-before.ensures.0 refl) (rw c.plan-plan.ensures at c.served_reply.ensures)

pub returns-else-before : goal.returns-else-before
returns-else-before c =
    let plan = plan_of c.args.marked.now in
    served_before plan c.requires.settled (event_of c.args.put) c.args.key c.requires.put (event_of c.args.event) (event_of c.in-Some.commit) c.bare-else-before.result
    (ap (λ q. q.number) (rw c.plan-plan.ensures at c.in-Some.ensures).0) (rw c.plan-plan.ensures at c.in-Some.ensures).1
    (λ b. true≢false (sym (c.if-before.ensures.1 b))) (ap (λ r. r ∷ []) (sym c.bare-else-before.ensures))

pub returns-in_default : goal.returns-in_default
returns-in_default c =
    served_never (plan_of c.args.marked.now) c.requires.settled (event_of c.args.put) c.args.key c.requires.put (event_of c.args.event) c.bare.result (rw c.plan-plan.ensures at c.in_default.ensures)
    (ap (λ r. r ∷ []) (sym c.bare.ensures))
