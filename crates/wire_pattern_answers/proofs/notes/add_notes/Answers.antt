use Rattle.wire_pattern_answers.proofs.Walks.{calls_end, places_end}
use Rattle.wire_pattern_answers.proofs.notes.add_notes.Goals as goal

pub returns-in_default : goal.returns-in_default
returns-in_default c =
    calls_end c.args.role c.loop-number.number c.args.row.now c.args.calls.now c.args.places.now c.loop-number.out.items _ c.loop-number.invariant c.in_default.ensures.lookup.3

pub returns-in_default-get : goal.returns-in_default-get
returns-in_default-get c =
    places_end c.args.role c.loop-number.number c.args.row.now c.args.calls.now c.args.places.now c.loop-number.out.items _ c.loop-number.invariant c.in_default-get.ensures.lookup.3
