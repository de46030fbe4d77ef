use Rattle.std.proofs.Common.{map, ◌∙◌, ap, ◌≤◌, sym, refl, arith, length}
use Rattle.std.proofs.lemmas.Option.{slice_get_read}
use Rattle.wire_runs.specs.Plan.{process_count, same_node}
use Rattle.wire_runs.specs.Puts.{stored}
use Rattle.wire_scripts.specs.Planned.{plan_of}
use Rattle.wire_runs.specs.Sight.{served}
use Rattle.wire_runs.specs.Step.{run}
use Rattle.wire_core.specs.Seeing.{seen_as}
use Rattle.wire_core.proofs.Ranks.{done_past, stored_shown}
use Rattle.wire_core.proofs.running.Core.see_other.Goals as goal

pub returns-in-None : goal.returns-in-None
returns-in-None c =
    let lookup = rw (c.deref.ensures.value, c.index.ensures) at c.in-None.ensures.lookup in
    let count = c.self.invariant.course.told.count in
    let past : process_count (plan_of c.self.inside.plan.now) ≤ c.args.owner.number = omega (arith, lookup.3, count) in
    rw (← c.self.view_is)
    (sym (ap (λ n. seen_as (plan_of c.self.inside.plan.now) c.args.owner.number
    (served (plan_of c.self.inside.plan.now) c.args.owner.number (same_node (plan_of c.self.inside.plan.now) c.args.owner.number c.args.reader.number)
    (stored (plan_of c.self.inside.plan.now) c.args.owner.number c.args.key n)))
    (done_past (plan_of c.self.inside.plan.now) (map (λ p. p.number) c.self.inside.history.items) c.args.owner.number c.self.invariant.course.legal past)))

pub returns-in-Some : goal.returns-in-Some
returns-in-Some c =
    let ranks = c.self.inside.ranks.items in
    let lookup = rw (c.deref.ensures.value, c.index.ensures) at c.in-Some.ensures.lookup in
    let told = c.self.invariant.course.told.each c.args.owner.number c.in-Some.rank.now (slice_get_read ranks (length ranks) c.args.owner.number c.in-Some.rank.now refl lookup.3.0 lookup.1) in
    rw (← c.self.view_is) (c.seen_from.ensures.kept ∙ rw (
      c.node_of.ensures,
      c.node_of-in-Some.ensures,
    ) (stored_shown (plan_of c.self.inside.plan.now) (run (plan_of c.self.inside.plan.now) (map (λ p. p.number) c.self.inside.history.items)) c.args.owner.number
    c.args.key (same_node (plan_of c.self.inside.plan.now) c.args.owner.number c.args.reader.number) c.in-Some.rank.now told))
