use Rattle.wire_runs.specs.Plan.{event_of}
use Rattle.wire_scripts.specs.Planned.{plan_of}
use Rattle.wire_board.proofs.Showing.{sources_shown, none_told}
use Rattle.wire_board.proofs.shown.shows_sources.Goals as goal

pub returns : goal.returns
returns c =
    let known = c.args.known.now in
    let told = sources_shown (plan_of c.args.plan.now) known (event_of c.args.event) _ c.sources.ensures.sources in
    let none = none_told known _ _ c.first_source.result c.is_none.result c.is_none.ensures c.first_source.ensures c.skip_shown.ensures in
    (λ is. told.0 (none.0 is), λ shown. none.1 (told.1 shown))
