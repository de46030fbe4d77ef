use Rattle.std.proofs.Common.{◌≡◌, ◌<◌, ◌∙◌, ap, get_or, length, arith}
use Rattle.wire_runs.specs.Plan.{event_count, kinds_of}
use Rattle.wire_runs.specs.Ends.{calls_of}
use Rattle.wire_scripts.specs.Planned.{plan_of}
use Rattle.wire_plan.proofs.Planning.{count_called, numbers_count, number_read}
use Rattle.wire_plan.proofs.events.Events.call_of.Goals as goal

pub bounds-numbers-event : goal.bounds-numbers-event
bounds-numbers-event c =
    let plan = plan_of c.args.self.now in
    let p = c.args.event.proc.number in
    let numbers = ap length c.numbers.ensures in
    let count = numbers_count 0 (calls_of plan p) in
    let all = count_called c.args.self.now p in
    let there = c.requires in
    omega (arith, numbers, count, all, there)

pub returns : goal.returns
returns c =
    let plan = plan_of c.args.self.now in
    let p = c.args.event.proc.number in
    let all = count_called c.args.self.now p in
    let there = c.requires in
    let within : c.args.event.at < length (kinds_of (calls_of plan p)) = omega (arith, all, there) in
    ap (λ n. record { proc = c.args.event.proc; call = n }) (ap (λ ns. get_or ns c.args.event.at 0) c.numbers.ensures ∙ number_read (calls_of plan p) c.args.event.at 0 within)
