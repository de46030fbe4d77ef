use Rattle.std.proofs.Common.{◌≡◌, ◌<◌, ◌∙◌, ◌^◌, ap, length, take, arith}
use Rattle.wire_runs.specs.Plan.{event_count, kinds_of}
use Rattle.wire_runs.specs.Ends.{calls_of}
use Rattle.wire_scripts.specs.Planned.{plan_of}
use Rattle.wire_plan.proofs.Planning.{count_called, count_fits, front_count}
use Rattle.wire_plan.proofs.events.Events.first_event.Goals as goal

pub overflow_cast-result : goal.overflow_cast-result
overflow_cast-result c =
    let plan = plan_of c.args.self.now in
    let p = c.args.call.proc.number in
    let is = c.events_before.ensures (calls_of plan p) c.numbers.ensures in
    let front = front_count (calls_of plan p) c.args.call.call in
    let all = count_called c.args.self.now p in
    let fits = rw c.self.view_is at (count_fits c.self.inside.scripts p c.self.invariant.0.sound.counted.few_calls) in
    omega (arith, is, front, all, fits)

pub returns : goal.returns
returns c =
    let plan = plan_of c.args.self.now in
    let p = c.args.call.proc.number in
    ap (λ n. record { proc = p; at = n }) (c.events_before.ensures (calls_of plan p) c.numbers.ensures)
