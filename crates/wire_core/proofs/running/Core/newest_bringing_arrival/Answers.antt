use Rattle.std.proofs.Common.{arith}
use Rattle.wire_runs.specs.Step.{run}
use Rattle.wire_core.specs.Course.{plan_in}
use Rattle.wire_core.proofs.Bring.{done_within}
use Rattle.wire_core.proofs.Newest.{newest_told}
use Rattle.wire_core.proofs.running.Core.newest_bringing_arrival.Goals as goal

pub last_between-requires-clause-within : goal.last_between-requires-clause-within
last_between-requires-clause-within c =
    let last = rw (c.plan.ensures, c.in-Some.is) at c.last_bringing_arrival.ensures in
    let early = last.0.earlier in
    let done = c.requires in
    let within = done_within (plan_in c.args.self.now) c.args.self.now.history c.args.owner.number c.history.ensures.legal in
    omega (arith, early, done, within)

pub returns-clause-told : goal.returns-clause-told
returns-clause-told c =
    let plan = plan_in c.args.self.now in
    let w = c.args.self.now.history in
    newest_told plan (run plan w).done (λ q. done_within plan w q c.history.ensures.legal) c.args.owner.number c.args.node c.args.done c.in-Some.arrival
    (rw (c.plan.ensures, c.in-Some.is) at c.last_bringing_arrival.ensures) c.last_between.result c.last_between.ensures.told
