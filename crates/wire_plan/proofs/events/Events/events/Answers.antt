use Rattle.std.proofs.Common.{◌∙◌, ap, sym, map}
use Rattle.std.specs.Prelude.{slice_range}
use Rattle.wire_plan.specs.Kinds.{kind_of}
use Rattle.wire_plan.proofs.Planning.{part_rises, kinds_within, kinds_shown, no_kinds}
use Rattle.wire_plan.proofs.events.Events.events.Goals as goal

pub of_kinds-requires-clause-rises : goal.of_kinds-requires-clause-rises
of_kinds-requires-clause-rises c =
    part_rises c.self.inside.scripts c.self.inside.rows.firsts.items c.self.invariant.0.firsts c.args.proc.number c.in-Some.part.from c.in-Some.part.to c.in-Some.ensures.0 c.in-Some.ensures.1

pub of_kinds-requires-clause-within : goal.of_kinds-requires-clause-within
of_kinds-requires-clause-within c =
    let s = c.self.inside.scripts in
    let rows = c.self.inside.rows in
    rw c.deref.ensures.value
    (kinds_within s rows.firsts.items c.self.invariant.0.firsts c.args.proc.number c.in-Some.part.from c.in-Some.part.to c.in-Some.ensures.0 c.in-Some.ensures.1 (kind_of s.sets) rows.kinds.items
    c.self.invariant.0.kinds)

pub returns-in-Some : goal.returns-in-Some
returns-in-Some c =
    let s = c.self.inside.scripts in
    let rows = c.self.inside.rows in
    let shown = kinds_shown s rows.firsts.items c.self.invariant.0.firsts c.args.proc.number c.in-Some.part.from c.in-Some.part.to c.in-Some.ensures.0 c.in-Some.ensures.1 (kind_of s.sets) rows.kinds.items
    c.self.invariant.0.kinds in
    rw (← c.self.view_is) (ap (map (kind_of s.sets)) (c.of_kinds.ensures ∙ ap (λ l. slice_range l c.in-Some.part.from c.in-Some.part.to) c.deref.ensures.value) ∙ shown)

pub returns-in-None : goal.returns-in-None
returns-in-None c =
    rw (← c.self.view_is) (sym (no_kinds c.self.inside.scripts c.self.inside.rows.firsts.items c.self.invariant.0.firsts c.args.proc.number c.in-None.ensures))
