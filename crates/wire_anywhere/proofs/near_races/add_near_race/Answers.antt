use Rattle.std.proofs.Common.{◌∙◌, ap, sym}
use Rattle.std.proofs.lemmas.Bool.{true≢false}
use Rattle.std.proofs.lemmas.Result.{on_ok_weaker}
use Rattle.wire_runs.specs.Plan.{event_of}
use Rattle.wire_scripts.specs.Planned.{plan_of}
use Rattle.wire_anywhere.proofs.Races.{commit_source, adds_near, ordered_commit, no_commit}
use Rattle.wire_anywhere.proofs.near_races.add_near_race.Goals as goal

pub add_race-requires-clause-source : goal.add_race-requires-clause-source
add_race-requires-clause-source c =
    let stores = rw c.plan-plan.ensures at c.in-Some.ensures in
    rw c.plan-plan.ensures (commit_source (plan_of c.args.marked.now) (event_of c.in-Some.commit) c.args.asked.key stores.1)

pub add_race-requires-clause-get : goal.add_race-requires-clause-get
add_race-requires-clause-get c = rw c.plan-plan.ensures c.requires

pub add_race-requires-clause-another : goal.add_race-requires-clause-another
add_race-requires-clause-another c = c.requires.other

pub returns-then-are_unordered : goal.returns-then-are_unordered
returns-then-are_unordered c =
    let plan = plan_of c.args.marked.now in
    let stores = rw c.plan-plan.ensures at c.in-Some.ensures in
    on_ok_weaker c.add_race.result (λ h. adds_near plan (event_of c.args.asked.get_now) c.args.asked.owner.number c.args.asked.key c.args.found.now c.add_race.new.found (event_of c.in-Some.commit)
    c.requires (ap (λ q. q.number) stores.0) stores.1 (c.are_unordered.ensures.0 c.if-are_unordered.true) h) (rw c.plan-plan.ensures at c.add_race.ensures)

pub returns-else-are_unordered : goal.returns-else-are_unordered
returns-else-are_unordered c =
    let plan = plan_of c.args.marked.now in
    let stores = rw c.plan-plan.ensures at c.in-Some.ensures in
    ordered_commit plan (event_of c.args.asked.get_now) c.args.asked.owner.number c.args.asked.key c.args.found.now (event_of c.in-Some.commit)
    (ap (λ q. q.number) stores.0) stores.1 (λ u. true≢false (sym (c.are_unordered.ensures.1 u) ∙ c.if-are_unordered.false))

pub returns-in_default : goal.returns-in_default
returns-in_default c =
    no_commit (plan_of c.args.marked.now) (event_of c.args.asked.get_now) c.args.asked.owner.number c.args.asked.key c.args.found.now (rw c.plan-plan.ensures at c.in_default.ensures)
