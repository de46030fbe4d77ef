use Rattle.std.proofs.Common.{◌++◌, ap, map}
use Rattle.std.proofs.lemmas.List.{drop_all}
use Rattle.std.proofs.lemmas.Option.{slice_get-get_or}
use Rattle.wire_runs.specs.Plan.{event_of}
use Rattle.wire_report.specs.Chain.{step_of}
use Rattle.wire_report.proofs.Appended.{next_made, none_left}
use Rattle.wire_report.proofs.chain_parts.chain_steps.Goals as goal

pub step_of-requires : goal.step_of-requires
step_of-requires c = c.requires c.loop-event.event-index _ (slice_get-get_or c.args.chain.now c.loop-event.event-index _ c.loop-event-test.true)

pub loop-event-preserved : goal.loop-event-preserved
loop-event-preserved c =
    next_made (step_of c.args.plan.now) event_of c.args.chain.now c.loop-event.event-index _ _ _ _ c.step_of.result c.loop-event-test.true c.loop-event.invariant c.step_of.ensures
    c.in_ok-push.ensures.items

pub loop-event-init : goal.loop-event-init
loop-event-init c = ap (λ t. t ++ map (step_of c.args.plan.now) (map event_of c.args.chain.now)) c.new-steps.ensures.items

pub returns : goal.returns
returns c =
    none_left _ _ _ (ap (λ es. map (step_of c.args.plan.now) (map event_of es)) (drop_all c.loop-event.event-index c.args.chain.now c.loop-event-test.false)) c.loop-event.invariant
