use Rattle.std.proofs.Common.{rules}
use Rattle.wire_runs.specs.Plan.{event_of}
use Rattle.wire_scripts.specs.Planned.{plan_of}
use Rattle.wire_portable.proofs.Waits.{all_lacking, all_lacked, ended_near, ended_others}
use Rattle.wire_portable.proofs.waiting.near_get.Goals as goal

pub returns-then-not-has_ended-2 : goal.returns-then-not-has_ended-2
returns-then-not-has_ended-2 c = λ library h.
    let plan = plan_of c.args.judge.now in
    let p = c.args.asked.owner.number in
    ended_others plan p c.args.asked.key (event_of c.args.get) library (search rules) (all_lacking plan p c.args.asked.key (event_of c.args.get) c.last_lacking.result c.last_lacking.ensures (c.has_ended.ensures c.if-not-has_ended.false))

pub returns : goal.returns
returns c = λ library h.
    let plan = plan_of c.args.judge.now in
    let p = c.args.asked.owner.number in
    let g = event_of c.args.get in
    ended_near plan p c.args.asked.key g library (all_lacking plan p c.args.asked.key g c.last_lacking.result c.last_lacking.ensures (c.has_ended.ensures c.if-not-has_ended.false))
    (all_lacked plan p c.args.asked.key g c.last_lacked.result c.last_lacked.ensures (c.has_ended-2.ensures c.if-not-has_ended-2.false))
