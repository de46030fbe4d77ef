use Rattle.std.proofs.Common.{arith}
use Rattle.wire_runs.specs.Plan.{event_count}
use Rattle.wire_plan.proofs.KeptGets.{kept_deliver, none_deliver}
use Rattle.wire_plan.proofs.deliveries.delivering_gets.Goals as goal

pub returns-then-commit-events : goal.returns-then-commit-events
returns-then-commit-events c = λ plan lists keys count once.
    let p = c.args.delivery.owner.number in
    let lt = c.if-commit-events.true in
    kept_deliver plan p c.args.delivery.key c.args.delivery.node _ ((c.in-Some.ensures plan keys once (event_count plan p)).1 (omega (arith, lt, count))) (c.gets.ensures plan lists)

pub returns-else-commit-events : goal.returns-else-commit-events
returns-else-commit-events c = λ plan lists keys count once.
    let p = c.args.delivery.owner.number in
    let over = c.if-commit-events.false in
    none_deliver plan p c.args.delivery.key c.args.delivery.node (λ sent. let lt = (c.in-Some.ensures plan keys once (event_count plan p)).0 sent in omega (arith, lt, over, count))

pub returns-in-None : goal.returns-in-None
returns-in-None c = λ plan lists keys count once.
    let p = c.args.delivery.owner.number in
    none_deliver plan p c.args.delivery.key c.args.delivery.node (λ sent. c.in-None.ensures plan keys once (event_count plan p) sent)
