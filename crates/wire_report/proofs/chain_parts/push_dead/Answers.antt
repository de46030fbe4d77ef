use Rattle.std.proofs.Common.{[], ◌∷◌, sym, refl, subst}
use Rattle.std.proofs.lemmas.List.{append-nil}
use Rattle.wire_runs.specs.Order.{Live}
use Rattle.wire_scripts.specs.Planned.{plan_of}
use Rattle.wire_report.specs.Chain.{Dead, Alive}
use Rattle.wire_report.proofs.chain_parts.push_dead.Goals as goal

pub returns-then-live : goal.returns-then-live
returns-then-live c =
    let at = rw c.plan.ensures at c.first_event.ensures in
    ([], Alive (subst (Live (plan_of c.args.marked.now)) at (c.live.ensures.0 c.if-live.true)) refl, sym (append-nil _))

pub returns : goal.returns
returns c =
    let at = rw c.plan.ensures at c.first_event.ensures in (
      c.args.call ∷ [],
      Dead (λ l. cc (c.if-live.false, c.live.ensures.1 (subst (Live (plan_of c.args.marked.now)) (sym at) l))) refl,
      c.in_ok-push.ensures.items,
    )
