use Rattle.std.proofs.Common.{map, refl}
use Rattle.std.proofs.lemmas.Option.{slice_get-get_or}
use Rattle.std.specs.List.{flat_map}
use Rattle.wire_runs.specs.Plan.{event_of}
use Rattle.wire_commands.specs.Chains.{placed_event}
use Rattle.wire_commands.proofs.Listed.{one_more_line}
use Rattle.wire_command.specs.Answer.{rows_in}
use Rattle.wire_commands.proofs.why.push_events.Goals as goal

pub push_placed_event-requires : goal.push_placed_event-requires
push_placed_event-requires c = c.requires c.loop-event.event-index _ (slice_get-get_or c.args.chain.now c.loop-event.event-index _ c.loop-event-test.true)

pub loop-event-preserved : goal.loop-event-preserved
loop-event-preserved c =
    let line = placed_event c.args.places.name.now (rows_in c.args.places) c.args.plan.now in
    one_more_line (λ events. flat_map line (map event_of events)) (λ event. line (event_of event)) c.args.chain.now c.loop-event.event-index _ _ c.loop-event.out.items _ (λ event later. refl)
    c.loop-event-test.true c.loop-event.invariant c.in_ok-push_placed_event.ensures
