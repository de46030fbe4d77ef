use Rattle.std.proofs.Common.{map, length, refl}
use Rattle.std.proofs.lemmas.Option.{slice_get_read}
use Rattle.std.proofs.lemmas.Result.{on_ok_weaker}
use Rattle.wire_runs.specs.Plan.{event_of}
use Rattle.wire_happens_before.proofs.Joining.{added_at, set_at, set_others}
use Rattle.wire_happens_before.proofs.joins.meet.Goals as goal

pub meet-requires-clause-kept : goal.meet-requires-clause-kept
meet-requires-clause-kept c =
    let meetings = c.add_meetings.new.meetings.items in
    let there = c.in_ok-add_meetings.ensures.there in
    let at = slice_get_read meetings (length meetings) c.args.fence.number c.index_mut.result.now refl there c.index_mut.ensures.value in
    added_at c.args.clocks.now c.args.meetings.now.items meetings c.args.fence.number (map event_of c.args.arrivals.now) c.in_ok-add_meetings.ensures.kept c.requires.kept c.index_mut.result.now at

pub returns-clause-kept : goal.returns-clause-kept
returns-clause-kept c =
    on_ok_weaker c.meet.result
    (set_at c.meet.new.clocks c.add_meetings.new.meetings.items c.args.fence.number (map event_of c.args.arrivals.now) c.meet.new.self c.in_ok-add_meetings.ensures.there) c.meet.ensures.kept

pub returns-clause-others : goal.returns-clause-others
returns-clause-others c =
    on_ok_weaker c.meet.result (λ _. set_others c.args.meetings.now.items c.add_meetings.new.meetings.items c.args.fence.number c.meet.new.self c.in_ok-add_meetings.ensures.kept)
    c.meet.ensures.kept
