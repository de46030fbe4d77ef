use Rattle.std.proofs.Common.{ap}
use Rattle.std.proofs.lemmas.Result.{on_ok_weaker}
use Rattle.wire_runs.specs.Plan.{event_of}
use Rattle.wire_scripts.specs.Planned.{plan_of}
use Rattle.wire_portable.specs.Gets.{first_under}
use Rattle.wire_portable.proofs.Keys.{never_there}
use Rattle.wire_portable.proofs.OpenGets.{unread_below}
use Rattle.wire_portable.proofs.gets.GetTable.lower_to.Goals as goal

pub returns-in_ok-raise-in-Some-clause-lower : goal.returns-in_ok-raise-in-Some-clause-lower
returns-in_ok-raise-in-Some-clause-lower c =
    let found = rw c.plan.ensures at c.in-Some.ensures in
    on_ok_weaker c.lower.result
    (unread_below (plan_of c.args.marked.now) c.args.asked.owner.number c.args.asked.key (first_under c.lower.new.self c.args.listed) (event_of c.in-Some.store) (ap (λ q. q.number) found.0) found.1)
    c.lower.ensures.lower

pub returns-in-None-clause-lower : goal.returns-in-None-clause-lower
returns-in-None-clause-lower c =
    never_there (plan_of c.args.marked.now) c.args.asked.owner.number c.args.asked.key (rw c.plan.ensures at c.in-None.ensures) (first_under c.args.self.now c.args.listed)
