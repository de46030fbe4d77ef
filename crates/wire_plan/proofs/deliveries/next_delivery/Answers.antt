use Rattle.std.proofs.Common.{subst}
use Rattle.wire_scripts.specs.Planned.{plan_of}
use Rattle.wire_plan.specs.Bringing.{IsSentAfter}
use Rattle.wire_plan.proofs.Delivering.{next_found, sent_there}
use Rattle.wire_plan.proofs.deliveries.next_delivery.Goals as goal

pub returns-in-Some-clause-next : goal.returns-in-Some-clause-next
returns-in-Some-clause-next c = λ once.
    let plan = plan_of c.args.events.now in
    let p = c.args.delivery.owner.number in
    let key = c.args.delivery.key in
    let node = c.args.delivery.node in
    let sent = subst (λ o. IsSentAfter plan p key o) c.in-Some.is (c.sending_commit.ensures plan c.requires.index.keys once) in
    next_found plan p key node c.args.from c.in-Some.commit c.higher-at.result sent c.higher-at.ensures.first c.higher-at.ensures.second c.higher-at.ensures.least c.first_from.result
    c.first_from.ensures.first

pub returns-in-None-clause-next : goal.returns-in-None-clause-next
returns-in-None-clause-next c = λ once at le delivers.
    let plan = plan_of c.args.events.now in
    let p = c.args.delivery.owner.number in
    let key = c.args.delivery.key in
    let none = subst (λ o. IsSentAfter plan p key o) c.in-None.is (c.sending_commit.ensures plan c.requires.index.keys once) in
    none at (sent_there plan p key c.args.delivery.node at delivers)
