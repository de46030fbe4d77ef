use Rattle.std.proofs.Common.{◌∙◌, List, [], ◌∷◌, ◌++◌, Vec, ap, map}
use Rattle.std.specs.declared.alloc.Global.{Global}
use Rattle.std.proofs.lemmas.List.{map_push}
use Rattle.wire_types.specs.declared.place.Event.{Event}
use Rattle.wire_plan.specs.Meetings.{arrivals_in}
use Rattle.wire_plan.proofs.Gathering.{room_same}
use Rattle.wire_plan.proofs.meetings.make_room.Goals as goal

abbrev view : Vec Event Global → List Event
view list = list.items

pub lists-preserved : goal.lists-preserved
lists-preserved c = λ n.
    let lists = c.lists.lists.items in
    ap (λ xs. arrivals_in (map view xs) n) c.in_ok-push.ensures.items
    ∙ ap (λ xs. arrivals_in xs n) (map_push view lists c.new.result ∙ ap (λ xs. map view lists ++ xs ∷ []) c.new.ensures.items)
    ∙ room_same (map view lists) n
    ∙ c.lists.invariant n
