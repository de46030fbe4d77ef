use Rattle.std.proofs.Common.{◌∙◌, ap, sym}
use Rattle.std.specs.Prelude.{slice_range}
use Rattle.wire_plan.proofs.Planning.{part_rises, numbers_within, numbers_shown, no_numbers}
use Rattle.wire_plan.proofs.events.Events.numbers.Goals as goal

pub of_numbers-requires-clause-rises : goal.of_numbers-requires-clause-rises
of_numbers-requires-clause-rises c =
    part_rises c.self.inside.scripts c.self.inside.rows.firsts.items c.self.invariant.0.firsts c.args.proc.number c.in-Some.part.from c.in-Some.part.to c.in-Some.ensures.0 c.in-Some.ensures.1

pub of_numbers-requires-clause-within : goal.of_numbers-requires-clause-within
of_numbers-requires-clause-within c =
    let rows = c.self.inside.rows in
    rw c.deref.ensures.value
    (numbers_within c.self.inside.scripts rows.firsts.items c.self.invariant.0.firsts c.args.proc.number c.in-Some.part.from c.in-Some.part.to c.in-Some.ensures.0 c.in-Some.ensures.1 rows.calls.items
    c.self.invariant.0.calls)

pub returns-in-Some : goal.returns-in-Some
returns-in-Some c =
    let rows = c.self.inside.rows in
    let shown = numbers_shown c.self.inside.scripts rows.firsts.items c.self.invariant.0.firsts c.args.proc.number c.in-Some.part.from c.in-Some.part.to c.in-Some.ensures.0 c.in-Some.ensures.1
    rows.calls.items c.self.invariant.0.calls in
    rw (← c.self.view_is) (c.of_numbers.ensures ∙ ap (λ l. slice_range l c.in-Some.part.from c.in-Some.part.to) c.deref.ensures.value ∙ shown)

pub returns-in-None : goal.returns-in-None
returns-in-None c =
    rw (← c.self.view_is) (sym (no_numbers c.self.inside.scripts c.self.inside.rows.firsts.items c.self.invariant.0.firsts c.args.proc.number c.in-None.ensures))
