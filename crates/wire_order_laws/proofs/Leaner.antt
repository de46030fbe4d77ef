-- Leaner plans tell of plans, step by step.
use Rattle.wire_runs.specs.Plan.{Plan}
use Rattle.wire_runs.specs.Races.{IsSettled}
use Rattle.wire_order_laws.specs.Leaner.{IsLeaner, LacksOrder, TellsOrder, LacksUnread, LacksFences, Further, LeanerTells}
use Rattle.wire_order_laws.proofs.LessOrder.{less_order_finds}
use Rattle.wire_order_laws.proofs.OrderThere.{order_there_finds}
use Rattle.wire_order_laws.proofs.Unread.{bare_finds}
use Rattle.wire_order_laws.proofs.WholeFences.{fewer_fences_find}

tells : {lean plan : Plan} → IsLeaner lean plan → IsSettled lean → IsSettled plan
tells {lean = lean} {plan = plan} (LacksOrder pieces less) settled = less_order_finds lean plan pieces less settled
tells {lean = lean} {plan = plan} (TellsOrder pieces adds) settled = (order_there_finds plan lean pieces adds).0 settled
tells {lean = lean} {plan = plan} (LacksUnread bare) settled = bare_finds lean plan bare settled
tells {lean = lean} {plan = plan} (LacksFences gone bare) settled = fewer_fences_find gone lean plan bare settled
tells (Further a b) settled = tells b (tells a settled)

pub leaner_tells : LeanerTells
leaner_tells lean plan leaner settled = tells leaner settled
