use Rattle.std.proofs.Common.{◌∙◌, ap, refl}
use Rattle.std.specs.Prelude.{option_map}
use Rattle.std.proofs.lemmas.Option.{slice_get-map}
use Rattle.wire_runs.specs.Plan.{event_of}
use Rattle.wire_happens_before.proofs.joins.missing_at.Goals as goal

pub returns : goal.returns
returns c = (c.in-Some.meeting.now.count, event_of c.arrival_at.result, slice_get-map event_of c.args.arrivals.now c.in-Some.meeting.now.count ∙ ap (option_map event_of) c.arrival_at.ensures, refl)
