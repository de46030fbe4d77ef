use Rattle.wire_pattern_waits.proofs.Walks.{lines_end}
use Rattle.wire_pattern_waits.proofs.stops.add_stops.Goals as goal

pub returns-in_default : goal.returns-in_default
returns-in_default c =
    lines_end c.args.role c.loop-number.number c.args.row.now c.args.places.now c.loop-number.out.items _ c.in_default.ensures.lookup.3 c.loop-number.invariant
