use Rattle.std.proofs.Common.{refl, sym, subst}
use Rattle.wire_runs.specs.Placings.{IsPlacing}
use Rattle.wire_scripts.specs.contracts.scripts.Scripts.{the_view}
use Rattle.wire_scripts.specs.Scripts.{IsSound, numbers_of}
use Rattle.wire_scripts.specs.Placed.{AreAloneTogether, node_beside, with_second}
use Rattle.wire_scripts.specs.Planned.{plan_of}
use Rattle.wire_scripts.proofs.Moved.{as_placing, moved_sound, placed_alone, placed_parts}
use Rattle.wire_scripts.proofs.scripts.Scripts.place.Goals as goal

pub invariant_of-result : goal.invariant_of-result
invariant_of-result c =
    let s = the_view c.self.inside in
    let ranks = numbers_of c.args.ranks.now in
    subst IsSound (sym (placed_parts s s ranks _ _ refl c.in_ok-nodes.ensures c.in_ok-place_all.ensures))
    (moved_sound s (with_second s.nodes) (node_beside ranks) c.self.invariant)

pub returns-clause-plan : goal.returns-clause-plan
returns-clause-plan c =
    let before = c.args.self in
    let ranks = numbers_of c.args.ranks.now in
    subst (λ t. IsPlacing (plan_of before) (plan_of t))
    (sym (placed_parts (the_view c.self.inside) before ranks _ _ c.self.view_is c.in_ok-nodes.ensures c.in_ok-place_all.ensures))
    (as_placing before (with_second before.nodes) (node_beside ranks))

pub returns-clause-alone : goal.returns-clause-alone
returns-clause-alone c =
    let before = c.args.self in
    let ranks = numbers_of c.args.ranks.now in
    subst (λ t. AreAloneTogether (plan_of t) ranks)
    (sym (placed_parts (the_view c.self.inside) before ranks _ _ c.self.view_is c.in_ok-nodes.ensures c.in_ok-place_all.ensures))
    (placed_alone before ranks)
