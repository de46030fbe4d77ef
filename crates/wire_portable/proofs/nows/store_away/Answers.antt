use Rattle.std.proofs.Common.{◌∙◌, sym, subst, false}
use Rattle.wire_scripts.specs.Planned.{plan_of}
use Rattle.wire_portable.specs.Judging.{AreFor}
use Rattle.wire_portable.proofs.AtMostOnce.{never_stored}
use Rattle.wire_portable.proofs.Carried.{not_once, only_near, found_away}
use Rattle.wire_portable.proofs.nows.store_away.Goals as goal

pub returns-then-count-ne1 : goal.returns-then-count-ne1
returns-then-count-ne1 c =
    let plan = plan_of c.args.judge.now in
    let count = rw c.plan-plan.ensures at c.put_count-count.ensures in
    not_once plan c.args.asked.owner.number c.args.asked.key
    (λ once. never_stored plan c.args.asked.owner.number c.args.asked.key once (λ one. c.if-count-ne1.true (count ∙ one)))

pub returns-then-not-is_for : goal.returns-then-not-is_for
returns-then-not-is_for c = λ once.
    let plan = plan_of c.args.judge.now in
    only_near plan c.args.asked.owner.number c.args.asked.key (subst (AreFor plan c.args.asked.owner.number c.args.asked.key false) c.if-not-is_for.true (c.is_for.ensures once))

pub returns : goal.returns
returns c =
    let plan = plan_of c.args.judge.now in
    let count = rw c.plan-plan.ensures at c.put_count-count.ensures in
    found_away plan c.args.asked.owner c.args.asked.key c.live_store.result (sym count ∙ c.if-count-ne1.false)
    (λ once. subst (AreFor plan c.args.asked.owner.number c.args.asked.key false) c.if-not-is_for.false (c.is_for.ensures once)) c.live_store.ensures
