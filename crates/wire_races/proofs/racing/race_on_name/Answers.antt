use Rattle.wire_runs.specs.Plan.{event_of}
use Rattle.wire_scripts.specs.Planned.{plan_of}
use Rattle.wire_races.proofs.Pairs.{one_contested}
use Rattle.wire_races.proofs.racing.race_on_name.Goals as goal

pub returns : goal.returns
returns c =
    let plan = plan_of c.args.marked.now in
    let u = c.are_unordered.ensures.0 c.if-not-are_unordered.false in
    let names = rw c.plan-plan.ensures at c.in_ok-names.ensures in
    let contested = rw (c.plan-plan.ensures, c.as_slice.ensures.value) at c.is_one_contested.ensures in
    let told = one_contested plan (event_of c.args.x) (event_of c.args.y) c.in_ok-names.names.items c.if-x-y.false u names in
    ((λ t. told.0 (contested.0 t)), (λ r. contested.1 (told.1 r)))
