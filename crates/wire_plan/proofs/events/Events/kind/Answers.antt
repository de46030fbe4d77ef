use Rattle.std.proofs.Common.{◌≡◌, ◌<◌, ◌∙◌, ap, sym, length}
use Rattle.std.specs.Prelude.{option_map}
use Rattle.std.proofs.lemmas.List.{length-map}
use Rattle.std.proofs.lemmas.Option.{slice_get-map, slice_get-get_or}
use Rattle.wire_runs.specs.Plan.{event_count, kind_at}
use Rattle.wire_scripts.specs.Planned.{plan_of}
use Rattle.wire_plan.specs.Kinds.{kind_of}
use Rattle.wire_plan.proofs.events.Events.kind.Goals as goal

pub bounds-events-event : goal.bounds-events-event
unfolding event_count
bounds-events-event c =
    let counted : length c.events.result.now ≡ event_count (plan_of c.args.self.now) c.args.event.proc.number = sym (length-map c.events.result.now (kind_of c.args.self.now.sets))
    ∙ ap length c.events.ensures in
    rw counted c.requires

pub returns : goal.returns
unfolding event_count kind_at
returns c =
    let counted : length c.events.result.now ≡ event_count (plan_of c.args.self.now) c.args.event.proc.number =
    sym (length-map c.events.result.now (kind_of c.args.self.now.sets)) ∙ ap length c.events.ensures in
    let within : c.args.event.at < length c.events.result.now = rw counted c.requires in
    rw (← c.events.ensures) (slice_get-map (kind_of c.args.self.now.sets) c.events.result.now c.args.event.at
    ∙ ap (option_map (kind_of c.args.self.now.sets)) (slice_get-get_or c.events.result.now c.args.event.at _ within))
