use Rattle.std.proofs.Common.{sym, subst}
use Rattle.std.proofs.lemmas.Bool.{true≢false}
use Rattle.wire_runs.specs.Plan.{event_of}
use Rattle.wire_scripts.specs.Planned.{plan_of}
use Rattle.wire_fates.specs.Deliveries.{IsSure}
use Rattle.wire_fates.proofs.Surely.{first_sure, never_sure}
use Rattle.wire_fates.proofs.fence_deliveries.first_fence_is_sure.Goals as goal

pub returns-in-Some : goal.returns-in-Some
returns-in-Some c =
    let plan = plan_of c.args.marked.now in
    let at = c.in-Some.first.at in
    let next = rw c.plan.ensures at c.in-Some.ensures in (
      (λ t. (
        at,
        next.delivers,
        subst (λ q. IsSure plan (event_of c.args.asked.get_now) (record { proc = q; at = at })) next.proc (c.is_sure.ensures.0 t),
      )),
      (λ s. c.is_sure.ensures.1 (subst (λ q. IsSure plan (event_of c.args.asked.get_now) (record { proc = q; at = at })) (sym next.proc)
          (first_sure plan (event_of c.args.asked.get_now) c.args.asked.owner.number c.args.asked.key c.args.node at next.delivers next.others s))),
    )

pub returns-in-None : goal.returns-in-None
returns-in-None c = (
  (λ t. absurd (true≢false (sym t))),
  (λ s. absurd (never_sure (plan_of c.args.marked.now) (event_of c.args.asked.get_now) c.args.asked.owner.number c.args.asked.key c.args.node (rw c.plan.ensures at c.in-None.ensures) s)),
)
