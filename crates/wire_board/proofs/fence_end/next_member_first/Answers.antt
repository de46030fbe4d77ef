use Rattle.std.proofs.Common.{sym, subst}
use Rattle.wire_plan.specs.Index.{source_list}
use Rattle.wire_board.specs.Lanes.{SameEvents}
use Rattle.wire_board.proofs.Fronting.{same_list, fronted}
use Rattle.wire_board.proofs.fence_end.next_member_first.Goals as goal

pub returns-in-Some : goal.returns-in-Some
returns-in-Some c = same_list (source_list c.args.sources.previous c.args.sources.awaited c.args.sources.arrivals.now)

pub returns-in-None : goal.returns-in-None
returns-in-None c =
    let s = c.args.sources in
    let next = c.next_member.result in
    subst (λ o. SameEvents (source_list s.previous o s.arrivals.now) (source_list s.previous next s.arrivals.now)) (sym c.in-None.is) (fronted s.previous next s.arrivals.now c.next_member.ensures)
