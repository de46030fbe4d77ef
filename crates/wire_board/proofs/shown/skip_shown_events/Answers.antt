use Rattle.std.proofs.Common.{◌≡◌, ◌∙◌, true, map, sym, ap, subst, arith}
use Rattle.std.proofs.lemmas.List.{take_rest, take_all}
use Rattle.std.specs.List.{list_all}
use Rattle.wire_types.specs.declared.Event.{Event as CodeEvent}
use Rattle.wire_runs.specs.Plan.{event_of}
use Rattle.wire_board.specs.Cuts.{shows_event}
use Rattle.wire_board.proofs.Showing.{skip_to, skip_events}
use Rattle.wire_board.proofs.shown.skip_shown_events.Goals as goal

pub returns-then-not-shows_event : goal.returns-then-not-shows_event
returns-then-not-shows_event c =
    ap (map event_of) (take_rest c.args.events.now c.loop-at.at)
    ∙ skip_to c.args.known.now c.args.events.now c.loop-at.at _ c.loop-at-test.true c.loop-at.invariant (sym c.shows_event.ensures ∙ c.if-not-shows_event.true)

pub returns : goal.returns
returns c =
    let known = c.args.known.now in
    let end = c.loop-at-test.false in
    let whole = take_all c.loop-at.at c.args.events.now (omega (arith, end)) in
    sym (skip_events known c.args.events.now (subst (λ xs. list_all (λ (event : CodeEvent). shows_event known (event_of event)) xs ≡ true) whole c.loop-at.invariant))
