use Rattle.std.proofs.Common.{◌≡◌, ◌∙◌, ap, sym, subst}
use Rattle.wire_scripts.specs.Apart.{AreDistinct}
use Rattle.wire_scripts.specs.Planned.{plan_of}
use Rattle.wire_runs.specs.FindingsAnywhere.{IsPlacedSorted}
use Rattle.wire_findings.specs.Findings.{lower_name}
use Rattle.wire_findings.specs.Standings.{AreNamesOf}
use Rattle.wire_races.proofs.Names.{names_of}
use Rattle.wire_anywhere.specs.Anywhere.{all_placed}
use Rattle.wire_anywhere.proofs.Whole.{all_somewhere, all_met, whole_list}
use Rattle.wire_anywhere.proofs.finding_search.all_findings.Goals as goal

pub returns : goal.returns
returns g c =
    let s = c.args.marked.now in
    let plan = plan_of s in
    let held = rw c.plan.ensures at c.scripts.ensures in
    let same : c.names-names.result.now ≡ s.names = c.names-names.ensures ∙ ap (λ v. v.names) held.scripts in
    let of : AreNamesOf plan c.names-names.result.now = subst (AreNamesOf plan) (sym same) (names_of s held.sound (subst AreDistinct same c.are_apart.ensures)) in
    let only = all_somewhere plan c.in_ok-placeless.placeless c.empty-found.result c.add_placeless.new.found c.add_key_races.new.found c.empty-found.ensures c.in_ok-placeless.ensures
    (c.in_ok-add_placeless.ensures plan) c.in_ok-add_key_races.ensures in
    let all = all_met plan c.in_ok-placeless.placeless c.empty-found.result c.add_placeless.new.found c.add_key_races.new.found c.empty-found.ensures c.in_ok-placeless.ensures
    (c.in_ok-add_placeless.ensures plan) c.in_ok-add_key_races.ensures in
    whole_list s c.add_key_races.new.found c.in_order.result only all (c.in_order.ensures.those plan of only)
    (subst (λ names. IsPlacedSorted (lower_name names) (all_placed plan c.in_order.result)) same (c.in_order.ensures.sorted plan of only))
