use Rattle.std.proofs.Common.{◌≡◌, ◌∙◌, suc, sym, subst}
use Rattle.std.proofs.lemmas.Bool.{true≢false, false_from_ne_true, not_from_true, not_from_false}
use Rattle.wire_runs.specs.Plan.{event_of}
use Rattle.wire_runs.specs.Order.{Live, Before}
use Rattle.wire_scripts.specs.Planned.{plan_of}
use Rattle.wire_fates.specs.Deliveries.{MayBeLate}
use Rattle.wire_anywhere.proofs.Far.{may_told, told_may}
use Rattle.wire_anywhere.proofs.far_races.may_be_late.Goals as goal

pub returns-then-live : goal.returns-then-live
returns-then-live c =
    let plan = plan_of c.args.marked.now in
    let get = event_of c.args.asked.get_now in
    let p = c.args.asked.owner.number in
    let at = c.args.arrival.at in
    let e : event_of c.args.end ≡ record { proc = p; at = suc at } = λ i. record { proc = (c.requires.end_proc i).number; at = c.requires.end_at i } in
    let r = c.before-then-live.result in (
      (λ t. subst (λ q. MayBeLate plan get (record { proc = q.number; at = at })) (sym c.requires.proc)
          (may_told plan get p c.args.asked.key c.requires.get.is at c.requires.delivers (subst (Live plan) e (c.live.ensures.0 c.if-live.true))
          (λ b. true≢false (sym t ∙ not_from_true r (c.before-then-live.ensures.1 (subst (Before plan get) (sym e) b)))))),
      (λ m. not_from_false r (false_from_ne_true r (λ t. (told_may plan get p c.args.asked.key c.requires.get.is at c.requires.delivers
          (subst (λ q. MayBeLate plan get (record { proc = q.number; at = at })) c.requires.proc m)).1 (subst (Before plan get) e (c.before-then-live.ensures.0 t))))),
    )

pub returns-else-live : goal.returns-else-live
returns-else-live c =
    let plan = plan_of c.args.marked.now in
    let get = event_of c.args.asked.get_now in
    let p = c.args.asked.owner.number in
    let at = c.args.arrival.at in
    let e : event_of c.args.end ≡ record { proc = p; at = suc at } = λ i. record { proc = (c.requires.end_proc i).number; at = c.requires.end_at i } in (
      (λ t. absurd (true≢false (sym t ∙ c.if-live.false))),
      (λ m. c.live.ensures.1 (subst (Live plan) (sym e) (told_may plan get p c.args.asked.key c.requires.get.is at c.requires.delivers
          (subst (λ q. MayBeLate plan get (record { proc = q.number; at = at })) c.requires.proc m)).0)),
    )
