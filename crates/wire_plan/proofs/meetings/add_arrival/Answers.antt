use Rattle.std.proofs.Common.{refl, length}
use Rattle.std.proofs.lemmas.Option.{slice_get_read}
use Rattle.wire_plan.proofs.Gathering.{added_shown}
use Rattle.wire_plan.proofs.meetings.add_arrival.Goals as goal

pub returns : goal.returns
returns c n =
    let room = c.make_room.new.lists.items in
    let old = c.index_mut.result.now in
    let within = c.in_ok-make_room.ensures.room in
    let is = slice_get_read room (length room) c.args.fence.number old refl within c.index_mut.ensures.value in
    added_shown (λ v. v.items) c.args.lists.now.items room c.args.fence.number old c.push.new.self c.args.event within is c.in_ok-push.ensures.items c.in_ok-make_room.ensures.same n
