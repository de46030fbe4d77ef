use Rattle.wire_scripts.specs.Planned.{plan_of}
use Rattle.wire_fates.proofs.Surely.{next_from}
use Rattle.wire_fates.proofs.fence_deliveries.next_arrival.Goals as goal

pub returns : goal.returns
returns c = next_from (plan_of c.args.plan.now) c.args.owner c.args.key c.args.node c.args.from c.next_delivery.result c.next_delivery.ensures.owner (c.next_delivery.ensures.next c.requires)
