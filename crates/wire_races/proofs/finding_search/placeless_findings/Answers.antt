use Rattle.std.proofs.Common.{sym, subst}
use Rattle.wire_scripts.specs.Planned.{plan_of}
use Rattle.wire_races.specs.FindingKinds.{ArePlaceless}
use Rattle.wire_races.proofs.AllKinds.{placeless}
use Rattle.wire_races.proofs.finding_search.placeless_findings.Goals as goal

pub returns : goal.returns
returns g c =
    let plan = plan_of c.args.marked.now in
    let rewrites = rw c.plan.ensures at c.in_ok-add_rewrites.ensures in
    subst (ArePlaceless plan) (sym c.as_met.ensures)
    (placeless plan c.new-found.result c.add_rewrites.new.found c.add_name_races.new.found c.new-found.ensures rewrites.all c.in_ok-add_name_races.ensures.all)

pub add_name_races-requires-clause-found : goal.add_name_races-requires-clause-found
add_name_races-requires-clause-found g c = λ κs within. (rw c.plan.ensures at c.in_ok-add_rewrites.ensures).found
