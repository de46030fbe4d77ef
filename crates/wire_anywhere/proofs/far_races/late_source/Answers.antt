use Rattle.std.proofs.Common.{◌∙◌, ap, sym, map}
use Rattle.std.specs.Prelude.{option_map}
use Rattle.std.proofs.lemmas.Bool.{true≢false}
use Rattle.std.proofs.lemmas.Option.{slice_get-map}
use Rattle.wire_runs.specs.Plan.{event_of}
use Rattle.wire_scripts.specs.Planned.{plan_of}
use Rattle.wire_anywhere.proofs.Far.{first_is_late, sure_not_late, nobody_late}
use Rattle.wire_anywhere.proofs.KeptGets.{none_first}
use Rattle.wire_anywhere.proofs.far_races.late_source.Goals as goal

pub returns-then-before : goal.returns-then-before
returns-then-before c =
    sure_not_late (plan_of c.args.marked.now) (event_of c.args.asked.get_now) c.args.asked.owner.number c.args.asked.key c.requires.get.is c.args.arrival.proc.number c.args.arrival.at
    c.requires.may (c.before-2.ensures.0 c.if-before.true)

pub returns-in-Some : goal.returns-in-Some
returns-in-Some c =
    let list = c.args.arrivals.now in
    first_is_late (plan_of c.args.marked.now) (event_of c.args.asked.get_now) c.args.asked.owner.number c.args.asked.key c.requires.get.is c.args.arrival.proc.number c.args.arrival.at
    c.requires.may (map event_of list) c.requires.those (λ b. true≢false (sym (c.before-2.ensures.1 b) ∙ c.if-before.false)) (event_of c.in-Some.first.now)
    (slice_get-map event_of list 0 ∙ ap (option_map event_of) (sym c.in-Some.ensures.value))

pub returns-in-None : goal.returns-in-None
returns-in-None c =
    let list = c.args.arrivals.now in
    nobody_late (plan_of c.args.marked.now) (event_of c.args.asked.get_now) c.args.asked.owner.number c.args.asked.key c.requires.get.is c.args.arrival.proc.number c.args.arrival.at
    c.requires.may (map event_of list) c.requires.those (none_first list c.in-None.ensures.value)
