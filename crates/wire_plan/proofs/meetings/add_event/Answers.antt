use Rattle.std.proofs.Common.{◌∙◌, sym, map}
use Rattle.std.proofs.lemmas.Option.{same_Some}
use Rattle.wire_plan.proofs.Gathering.{one_arrival, no_arrival, other_kind}
use Rattle.wire_plan.proofs.meetings.add_event.Goals as goal

pub returns-in_ok-add_arrival : goal.returns-in_ok-add_arrival
returns-in_ok-add_arrival c are =
    one_arrival c.args.events.now c.args.fences.now c.args.event c.fence_at.result.number (map (λ v. v.items) c.args.lists.now.items) (map (λ v. v.items) c.add_arrival.new.lists.items) _ _
    c.requires.fences c.in-Arrive.ensures c.fence_at.ensures c.in_ok-add_arrival.ensures are

pub returns-in_default : goal.returns-in_default
returns-in_default c are =
    no_arrival c.args.events.now c.args.fences.now c.args.event.proc.number c.args.event.at (map (λ v. v.items) c.args.lists.now.items)
    (λ members collect is. other_kind c.args.events.now.sets c.kind.result c.in_default.not-Arrive members collect (same_Some _ _ (sym c.kind.ensures ∙ is)))
    are
