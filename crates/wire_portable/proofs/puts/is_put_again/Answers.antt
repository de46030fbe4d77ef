use Rattle.std.proofs.Common.{ap, subst}
use Rattle.std.proofs.lemmas.Bool.{ltb-false}
use Rattle.wire_runs.specs.Plan.{event_of}
use Rattle.wire_scripts.specs.Planned.{plan_of}
use Rattle.wire_plan.specs.Index.{IsFirstPut}
use Rattle.wire_portable.proofs.PutsOnce.{first_put, no_put}
use Rattle.wire_portable.proofs.puts.is_put_again.Goals as goal

pub returns-in-Some : goal.returns-in-Some
returns-in-Some c = λ late.
    let plan = plan_of c.args.plan.now in
    let found = c.in-Some.ensures in
    first_put plan (event_of c.args.put) c.args.key c.requires.0 c.requires.1 c.in-Some.first.at
    (subst (λ q. IsFirstPut plan (record { proc = q; at = c.in-Some.first.at }) c.args.key) (ap (λ q. q.number) found.0) found.1)
    (ltb-false c.in-Some.first.at c.args.put.at late)

pub returns-in-None : goal.returns-in-None
returns-in-None c = λ late. no_put (plan_of c.args.plan.now) (event_of c.args.put) c.args.key c.requires.0 c.requires.1 c.in-None.ensures
