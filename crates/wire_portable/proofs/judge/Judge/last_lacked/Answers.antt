use Rattle.std.proofs.Common.{ap}
use Rattle.wire_runs.specs.Plan.{event_of}
use Rattle.wire_scripts.specs.Planned.{plan_of}
use Rattle.wire_library_laws.specs.Portable.{Lacks, Lacked}
use Rattle.wire_portable.proofs.Keys.{last_same, store_lacked, lacked_upto, lacks_lacked, lacked_lacks}
use Rattle.wire_portable.proofs.judge.Judge.last_lacked.Goals as goal

pub returns-in-Some : goal.returns-in-Some
returns-in-Some c =
    let plan = plan_of c.args.self.now in
    let p = c.args.asked.owner.number in
    let key = c.args.asked.key in
    let f = c.in-Some.ensures in
    let its = ap (λ q. q.number) f.0 in
    (store_lacked plan p key (event_of c.in-Some.store) its f.1 f.2, lacked_upto plan p key (event_of c.in-Some.store) its f.1)

pub returns-in-None : goal.returns-in-None
returns-in-None c =
    let plan = plan_of c.args.self.now in
    let p = c.args.asked.owner.number in
    let key = c.args.asked.key in
    last_same (Lacks plan p key) (Lacked plan p key) c.last_lacking.result (lacks_lacked plan p key) (lacked_lacks plan p key c.in-None.ensures) c.last_lacking.ensures
