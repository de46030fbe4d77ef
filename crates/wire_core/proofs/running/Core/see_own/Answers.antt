use Rattle.std.proofs.Common.{map, ◌∙◌, ap, ◌≤◌, sym, refl, arith, length}
use Rattle.std.proofs.lemmas.Option.{slice_get_read}
use Rattle.wire_runs.specs.Plan.{process_count}
use Rattle.wire_runs.specs.Puts.{own}
use Rattle.wire_scripts.specs.Planned.{plan_of}
use Rattle.wire_runs.specs.Sight.{held}
use Rattle.wire_runs.specs.Step.{run}
use Rattle.wire_core.specs.Seeing.{seen_as}
use Rattle.wire_core.proofs.Ranks.{done_past, own_found, own_shown}
use Rattle.wire_core.proofs.running.Core.see_own.Goals as goal

pub returns-in-None : goal.returns-in-None
returns-in-None c =
    let lookup = rw (c.deref.ensures.value, c.index.ensures) at c.in-None.ensures.lookup in
    let count = c.self.invariant.course.told.count in
    let past : process_count (plan_of c.self.inside.plan.now) ≤ c.args.proc.number = omega (arith, lookup.3, count) in
    rw (← c.self.view_is)
    (sym (ap (λ n. seen_as (plan_of c.self.inside.plan.now) c.args.proc.number (held (own (plan_of c.self.inside.plan.now) c.args.proc.number c.args.key n)))
    (done_past (plan_of c.self.inside.plan.now) (map (λ p. p.number) c.self.inside.history.items) c.args.proc.number c.self.invariant.course.legal past)))

pub returns-in-Some-own : goal.returns-in-Some-own
returns-in-Some-own c =
    let ranks = c.self.inside.ranks.items in
    let lookup = rw (c.deref.ensures.value, c.index.ensures) at c.in-Some.ensures.lookup in
    let told = c.self.invariant.course.told.each c.args.proc.number c.in-Some.rank.now (slice_get_read ranks (length ranks) c.args.proc.number c.in-Some.rank.now refl lookup.3.0 lookup.1) in
    rw (← c.self.view_is) (ap own_found c.in-Some-own.ensures.kept
    ∙ own_shown (plan_of c.self.inside.plan.now) (run (plan_of c.self.inside.plan.now) (map (λ p. p.number) c.self.inside.history.items)) c.args.proc.number c.args.key c.in-Some.rank.now told)

pub returns-in-None-own : goal.returns-in-None-own
returns-in-None-own c =
    let ranks = c.self.inside.ranks.items in
    let lookup = rw (c.deref.ensures.value, c.index.ensures) at c.in-Some.ensures.lookup in
    let told = c.self.invariant.course.told.each c.args.proc.number c.in-Some.rank.now (slice_get_read ranks (length ranks) c.args.proc.number c.in-Some.rank.now refl lookup.3.0 lookup.1) in
    rw (← c.self.view_is) (ap own_found c.in-None-own.ensures.kept
    ∙ own_shown (plan_of c.self.inside.plan.now) (run (plan_of c.self.inside.plan.now) (map (λ p. p.number) c.self.inside.history.items)) c.args.proc.number c.args.key c.in-Some.rank.now told)
