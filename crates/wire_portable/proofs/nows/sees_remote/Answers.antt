use Rattle.std.proofs.Common.{ap, subst, true}
use Rattle.wire_runs.specs.Plan.{event_of}
use Rattle.wire_scripts.specs.Planned.{plan_of}
use Rattle.wire_portable.specs.Judging.{AreFor}
use Rattle.wire_portable.proofs.Sets.{not_false}
use Rattle.wire_portable.proofs.Carried.{unseen_never, unseen_near, unseen_before}
use Rattle.wire_portable.proofs.nows.sees_remote.Goals as goal

pub returns-in_default : goal.returns-in_default
returns-in_default c = λ e once. unseen_never (plan_of c.args.judge.now) c.args.asked.owner.number c.args.asked.key (event_of c.args.get) c.in_default.ensures

pub returns-then-is_for : goal.returns-then-is_for
returns-then-is_for c = λ e once.
    let plan = plan_of c.args.judge.now in
    unseen_near plan c.args.asked.owner.number c.args.asked.key (event_of c.args.get)
    (subst (AreFor plan c.args.asked.owner.number c.args.asked.key true) c.if-is_for.true (c.is_for.ensures once))

pub returns : goal.returns
returns c = λ e once.
    let found = c.in-Some.ensures in
    unseen_before (plan_of c.args.judge.now) c.args.asked.owner.number c.args.asked.key (event_of c.args.get) (event_of c.in-Some.store) (ap (λ q. q.number) found.0) found.1
    ((rw c.marked-marked.ensures at c.before-chained.ensures).0 (not_false c.before-chained.result e))
