use Rattle.std.proofs.Common.{◌∙◌}
use Rattle.wire_types.specs.Texts.{lists_of}
use Rattle.wire_instances.specs.Views.{cast_by}
use Rattle.wire_pattern_waits.proofs.NotedToo.{noted_too}
use Rattle.wire_pattern_waits.proofs.stops.note_waits.Goals as goal

pub returns : goal.returns
returns c =
    noted_too c.args.pattern.now (cast_by c.args.cast.now) c.note_stops.result c.as_slice.result.now (lists_of c.args.rows.now) c.args.noted.now c.note_stops.new.noted
    (c.as_slice.ensures.value ∙ c.in_ok-stops.ensures) c.note_stops.ensures
