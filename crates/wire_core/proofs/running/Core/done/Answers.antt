use Rattle.std.proofs.Common.{map, ◌≤◌, sym, refl, arith, length}
use Rattle.std.proofs.lemmas.Option.{slice_get_read}
use Rattle.wire_runs.specs.Plan.{process_count}
use Rattle.wire_scripts.specs.Planned.{plan_of}
use Rattle.wire_core.proofs.Ranks.{done_past}
use Rattle.wire_core.proofs.running.Core.done.Goals as goal

pub returns-in-Some : goal.returns-in-Some
returns-in-Some c =
    let ranks = c.self.inside.ranks.items in
    let lookup = rw (c.deref.ensures.value, c.index.ensures) at c.in-Some.ensures.lookup in
    rw (← c.self.view_is) (c.self.invariant.course.told.each c.args.proc.number c.in-Some.rank.now
    (slice_get_read ranks (length ranks) c.args.proc.number c.in-Some.rank.now refl lookup.3.0 lookup.1)).done

pub returns-in-None : goal.returns-in-None
returns-in-None c =
    let lookup = rw (c.deref.ensures.value, c.index.ensures) at c.in-None.ensures.lookup in
    let count = c.self.invariant.course.told.count in
    let past : process_count (plan_of c.self.inside.plan.now) ≤ c.args.proc.number = omega (arith, lookup.3, count) in
    rw (← c.self.view_is) (sym (done_past (plan_of c.self.inside.plan.now) (map (λ p. p.number) c.self.inside.history.items) c.args.proc.number c.self.invariant.course.legal past))
