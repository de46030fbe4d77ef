use Rattle.std.proofs.Common.{◌≡◌, ◌∙◌, ap, sym, subst}
use Rattle.wire_runs.specs.Findings.{IsSorted}
use Rattle.wire_scripts.specs.Apart.{AreDistinct}
use Rattle.wire_scripts.specs.Planned.{plan_of}
use Rattle.wire_findings.specs.Findings.{all_shown, lower_name}
use Rattle.wire_findings.specs.Standings.{AreNamesOf}
use Rattle.wire_races.proofs.AllKinds.{all_kinds}
use Rattle.wire_races.proofs.Names.{names_of}
use Rattle.wire_races.proofs.finding_search.all_findings.Goals as goal

pub returns : goal.returns
returns g c =
    let s = c.args.marked.now in
    let held = rw c.plan-plan.ensures at c.scripts.ensures in
    let rewrites = rw c.plan-plan.ensures at c.in_ok-add_rewrites.ensures in
    let same : c.names-names.result.now ≡ s.names = c.names-names.ensures ∙ ap (λ v. v.names) held.scripts in
    let of : AreNamesOf (plan_of s) c.names-names.result.now = subst (AreNamesOf (plan_of s)) (sym same) (names_of s held.sound (subst AreDistinct same c.are_apart.ensures)) in
    let found = c.in_ok-add_name_races.ensures.found in
    all_kinds s c.new-found.result c.add_rewrites.new.found c.add_key_races.new.found c.add_name_races.new.found c.into_list-list.result
    rewrites.all c.in_ok-add_key_races.ensures.all c.in_ok-add_name_races.ensures.all found (c.into_list-list.ensures.those (plan_of s) of found)
    (subst (λ names. IsSorted (lower_name names) (all_shown (plan_of s) c.into_list-list.result)) same (c.into_list-list.ensures.sorted (plan_of s) of found))

pub add_key_races-requires-clause-found : goal.add_key_races-requires-clause-found
add_key_races-requires-clause-found g c = λ κs inner. (rw c.plan-plan.ensures at c.in_ok-add_rewrites.ensures).found
