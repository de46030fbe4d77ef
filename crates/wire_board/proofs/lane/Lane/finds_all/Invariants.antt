use Rattle.std.proofs.Common.{length}
use Rattle.wire_scripts.specs.Planned.{plan_of}
use Rattle.wire_plan.specs.Index.{source_list}
use Rattle.wire_board.specs.Lanes.{HasRead, AreLeft}
use Rattle.wire_board.proofs.lane.Lane.finds_all.Given as goal

abbrev pub invariant-sources : goal.invariant-sources
invariant-sources l = HasRead l.fn.self l.self × AreLeft (plan_of l.self.seat.board.plan) l.self.seat (source_list l.left.previous l.left.awaited l.left.arrivals.now)

abbrev pub decreases-sources : goal.decreases-sources
decreases-sources l = length (source_list l.left.previous l.left.awaited l.left.arrivals.now)
