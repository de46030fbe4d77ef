use Rattle.std.proofs.Common.{◌≡◌, true, take}
use Rattle.std.specs.List.{list_all}
use Rattle.wire_runs.specs.Plan.{event_of}
use Rattle.wire_board.specs.Cuts.{shows_event}
use Rattle.wire_board.proofs.shown.skip_shown_events.Given as goal

abbrev pub invariant-loop-at : goal.invariant-loop-at
invariant-loop-at l = list_all (λ event. shows_event l.known (event_of event)) (take l.at l.events) ≡ true
