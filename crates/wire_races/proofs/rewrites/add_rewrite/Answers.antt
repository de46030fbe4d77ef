use Rattle.std.proofs.lemmas.Result.{on_ok_weaker}
use Rattle.wire_runs.specs.Plan.{event_of}
use Rattle.wire_scripts.specs.Planned.{plan_of}
use Rattle.wire_races.proofs.Later.{shown_rewrite, adds_rewrite, adds_no_rewrite}
use Rattle.wire_races.proofs.rewrites.add_rewrite.Goals as goal

pub returns-in-Some : goal.returns-in-Some
returns-in-Some c =
    let plan = plan_of c.args.plan.now in
    on_ok_weaker c.add.result (λ told. adds_rewrite plan c.args.found.now c.add.new.self (event_of c.in-Some.first) (event_of c.args.event) _ c.in-Some.ensures
    (shown_rewrite plan (event_of c.in-Some.first) (event_of c.args.event) c.call_of.result c.call_of-in-Some.result c.call_of.ensures c.call_of-in-Some.ensures c.in-Some.ensures)
    c.requires.found (told (plan_of c.args.plan.now))) c.add.ensures.added

pub returns-in-None : goal.returns-in-None
returns-in-None c = adds_no_rewrite (plan_of c.args.plan.now) c.args.found.now (event_of c.args.event) c.in-None.ensures c.requires.found
