use Rattle.std.proofs.Common.{ap, sym, refl, map, flat_map}
use Rattle.std.proofs.lemmas.List.{drop_all}
use Rattle.std.proofs.lemmas.Option.{slice_get-get_or}
use Rattle.wire_runs.specs.Plan.{event_of}
use Rattle.wire_report.specs.Chain.{event_line}
use Rattle.wire_report.proofs.Appended.{next_mapped, none_left}
use Rattle.wire_report.proofs.chain_parts.push_events.Goals as goal

pub push_event-requires : goal.push_event-requires
push_event-requires c = c.requires c.loop-event.event-index _ (slice_get-get_or c.args.chain.now c.loop-event.event-index _ c.loop-event-test.true)

pub loop-event-preserved : goal.loop-event-preserved
loop-event-preserved c =
    next_mapped (event_line c.args.plan.now) event_of c.args.chain.now c.loop-event.event-index _ _ _ _ c.loop-event-test.true c.loop-event.invariant c.in_ok-push_event.ensures

pub loop-event-init : goal.loop-event-init
loop-event-init c = refl

pub returns : goal.returns
returns c =
    none_left _ _ _ (ap (λ es. flat_map (event_line c.args.plan.now) (map event_of es)) (drop_all c.loop-event.event-index c.args.chain.now c.loop-event-test.false)) (sym c.loop-event.invariant)
