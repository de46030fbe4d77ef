use Rattle.std.proofs.Common.{◌∙◌, sym, refl, subst}
use Rattle.std.proofs.lemmas.Bool.{true≢false}
use Rattle.std.proofs.lemmas.Option.{none-some}
use Rattle.wire_runs.specs.Plan.{event_of}
use Rattle.wire_runs.specs.Fate.{Waits, HasFate}
use Rattle.wire_scripts.specs.Planned.{plan_of}
use Rattle.wire_fates.specs.Fates.{IsFateOf}
use Rattle.wire_board.specs.Positions.{hold}
use Rattle.wire_board.proofs.Showing.{shown_from, shown_sources}
use Rattle.wire_board.proofs.shown.find_next_fate.Goals as goal

pub returns-then-not-shows_sources-clause-ready : goal.returns-then-not-shows_sources-clause-ready
returns-then-not-shows_sources-clause-ready c =
    let plan = c.plan-plan.result.now in
    let of = sym c.plan-plan.ensures.same in
    let h = hold c.args.settled.now c.args.rank.number c.args.known.now in
    (λ ne. absurd (ne refl), λ shown _. true≢false (sym (c.shows_sources.ensures.1 (shown_sources c.args.settled.now plan h _ of c.in_ok-event.ensures.0 shown)) ∙ c.if-not-shows_sources.true))

pub returns-in_default : goal.returns-in_default
returns-in_default c =
    let plan = c.plan-plan.result.now in
    let of = sym c.plan-plan.ensures.same in
    let event = event_of c.in_ok-event.event in
    let h = hold c.args.settled.now c.args.rank.number c.args.known.now in
    let comes : ¬ (HasFate (plan_of plan) event Waits) = λ w. c.in_default.not-Waits (c.fate.ensures.waits.1 (subst (λ p. HasFate (plan_of p) event Waits) c.plan-plan.ensures.same w)) in
    record {
      ready = (
        λ _. shown_from c.args.settled.now plan h event of c.in_ok-event.ensures.0 c.in_ok-event.ensures.1 (c.shows_sources.ensures.0 c.if-not-shows_sources.false) comes,
        λ _ e. none-some c.fate.result (sym e),
      );
      fate = (subst (λ y. IsFateOf (plan_of c.args.settled.now) y c.fate.result) c.in_ok-event.ensures.0 c.fate.ensures.fate, c.in_default.not-Waits);
    }
